-- What one entry keeps, whichever of the changes it makes.
use Rattle.std.proofs.Common.{◌≡◌, ℕ, List, [], ◌∷◌, ◌++◌, Bool, Some, refl, sym, ap, ◌∙◌, subst}
use Rattle.std.specs.Prelude.{if◌then◌else◌}
use Rattle.std.proofs.lemmas.Bool.{and_parts}
use Rattle.cs_base.specs.Lists.{IsIn}
use Rattle.cs_ledger.specs.Session.{AreToldApart, Session, Rules, Key, has_key, used_up, read_only, anchor}
use Rattle.cs_ledger.specs.Table.{Vote, Commit, Abort, Table, Entry, Prepare, Decide, Voted, Outcome, with_locks, with_vote, session_of, exec}
use Rattle.cs_ledger.proofs.Basics.{key_refl, anchor_piece}
use Rattle.cs_ledger.proofs.Settled.{settled, open_parts, held_settles, settled_own}
use Rattle.cs_ledger.proofs.Changes.{settled_at, Nothing, Locks, Notes, Accepts, Aborts, change}
use Rattle.cs_ledger.proofs.States.{ready_at, lock_takes, held_if_locked}
use Rattle.cs_ledger.proofs.Kept.{Kept, kept_lock, kept_note, kept_accept, kept_abort, fixed_lock, fixed_note, fixed_accept, fixed_abort, anchor_is_piece}

-- what a step's being allowed says of a decision
abbrev pub IsBacked : (Session → Type 0) → (Session → Type 0) → Entry → Type 0
IsBacked commits aborts (Prepare x) = Unit {0}
IsBacked commits aborts (Decide x Commit) = commits x
IsBacked commits aborts (Decide x Abort) = aborts x

-- the vote that a Prepare gets is what the anchor fixes from then on
pub record Fixed (rules : Rules) (shard : ℕ) (t : Table) (x : Session) (vote : Vote) : Type 0 where
  pub key : Key
  pub is : anchor rules x shard ≡ Some key
  pub fixed : settled_at t key x.digest ≡ Some vote

pub same_out : (P : Table → Type 0) (a b : Outcome) → a ≡ b → P b.table → P a.table
same_out P a b e h = subst (λ (o : Outcome). P o.table) (sym e) h

module _ (rules : Rules) (known : List Session) (unique : AreToldApart known) (shard : ℕ) (t : Table) where
  module _ (commits aborts : Session → Type 0) (kept : Kept rules known commits aborts shard t) (entry : Entry) (knows : IsIn (session_of entry) known) (backed : IsBacked commits aborts entry) where
    pub kept_entry : Kept rules known commits aborts shard (exec rules shard t entry).table
    kept_entry =
        elim (change rules shard t entry) [
          | Nothing same idle repeats ↦ subst (λ z. Kept rules known commits aborts shard z) (sym same) kept
          | Locks y key what is free ready to ↦
              same_out (λ z. Kept rules known commits aborts shard z) _ _ to
              (kept_lock rules known unique shard t commits aborts kept y (subst (λ e. IsIn (session_of e) known) what knows) key is free ready)
          | Notes y key what is free to ↦
              same_out (λ z. Kept rules known commits aborts shard z) _ _ to
              (kept_note rules known unique shard t commits aborts kept y (subst (λ e. IsIn (session_of e) known) what knows) key is free)
          | Accepts y key what is held to ↦
              same_out (λ z. Kept rules known commits aborts shard z) _ _ to
              (kept_accept rules known unique shard t commits aborts kept y (subst (λ e. IsIn (session_of e) known) what knows) key is held (subst (λ e. IsBacked commits aborts e) what backed))
          | Aborts y key what is held to ↦
              same_out (λ z. Kept rules known commits aborts shard z) _ _ to
              (kept_abort rules known unique shard t commits aborts kept y (subst (λ e. IsIn (session_of e) known) what knows) key is held (subst (λ e. IsBacked commits aborts e) what backed))
        ]

    pub fixed_entry : (x : Session) → IsIn x known → (vote : Vote) → Fixed rules shard t x vote → Fixed rules shard (exec rules shard t entry).table x vote
    fixed_entry x knows_x vote was =
        elim (change rules shard t entry) [
          | Nothing same idle repeats ↦ subst (λ z. Fixed rules shard z x vote) (sym same) was
          | Locks y key what is free ready to ↦
              same_out (λ z. Fixed rules shard z x vote) _ _ to
              (record { key = was.key; is = was.is; fixed = fixed_lock rules known unique shard t commits aborts kept y (subst (λ e. IsIn (session_of e) known) what knows) key is x knows_x was.key was.is vote was.fixed free })
          | Notes y key what is free to ↦
              same_out (λ z. Fixed rules shard z x vote) _ _ to
              (record { key = was.key; is = was.is; fixed = fixed_note rules known unique shard t commits aborts kept y (subst (λ e. IsIn (session_of e) known) what knows) key is x knows_x was.key was.is vote was.fixed free })
          | Accepts y key what is held to ↦
              same_out (λ z. Fixed rules shard z x vote) _ _ to
              (record { key = was.key; is = was.is; fixed = fixed_accept rules known unique shard t commits aborts kept y (subst (λ e. IsIn (session_of e) known) what knows) key is x knows_x was.key was.is vote was.fixed held })
          | Aborts y key what is held to ↦
              same_out (λ z. Fixed rules shard z x vote) _ _ to
              (record { key = was.key; is = was.is; fixed = fixed_abort rules known unique shard t commits aborts kept y (subst (λ e. IsIn (session_of e) known) what knows) key is x knows_x was.key was.is vote was.fixed held })
        ]

  same_prepare : (x y : Session) → Prepare x ≡ Prepare y → y ≡ x
  same_prepare x y e = cc

  effect_vote : (out to : Outcome) (vote other : Vote) → out ≡ to → to.effect ≡ Voted other → out.effect ≡ Voted vote → vote ≡ other
  effect_vote out to vote other e f g = let h : Voted vote ≡ Voted other = sym g ∙ ap (λ (o : Outcome). o.effect) e ∙ f in cc

  pub fixed_vote : (x : Session) (vote : Vote) → (exec rules shard t (Prepare x)).effect ≡ Voted vote → Fixed rules shard (exec rules shard t (Prepare x)).table x vote
  fixed_vote x vote effect =
      elim (change rules shard t (Prepare x)) [
        | Nothing same idle repeats ↦
            let r = repeats x vote refl effect in
            subst (λ z. Fixed rules shard z x vote) (sym same) (record { key = r.key; is = r.is; fixed = r.fixed })
        | Locks y key what is free ready to ↦
            let yx = same_prepare x y what in
            same_out (λ z. Fixed rules shard z x vote) _ _ to
            (subst (λ z. Fixed rules shard (with_locks t y.digest (used_up rules y shard) (read_only rules y shard)) z vote) yx
            (record {
              key = key;
              is = is;
              fixed =
                  let p = anchor_piece rules y shard key is in
                  let ready_key = ap (λ z. (t.at z).state) p.2 ∙ ready_at t (used_up rules y shard) (and_parts _ _ ready).0 p.0 p.1 in
                  let state = lock_takes (has_key key (used_up rules y shard)) (has_key key (read_only rules y shard)) y.digest (t.at key).state p.0.object (anchor_is_piece rules known unique shard t y key is) ready_key in
                  held_settles _ (t.at key).book y.digest (held_if_locked y.digest p.0.object y.digest _ state refl)
                  ∙ ap Some (sym (effect_vote _ _ vote Commit to refl effect));
            }))
        | Notes y key what is free to ↦
            let yx = same_prepare x y what in
            same_out (λ z. Fixed rules shard z x vote) _ _ to
            (subst (λ z. Fixed rules shard (with_vote t key y.digest Abort) z vote) yx
            (record {
              key = key;
              is = is;
              fixed =
                  let was = open_parts (t.at key).state (t.at key).book y.digest free in
                  ap (λ (b : Bool). settled (t.at key).state (if b then (t.at key).book ++ (y.digest, Abort) ∷ [] else (t.at key).book) y.digest) (key_refl key)
                  ∙ settled_own (t.at key).state (t.at key).book y.digest Abort was.0 was.1
                  ∙ ap Some (sym (effect_vote _ _ vote Abort to refl effect));
            }))
        | Accepts y key what is held to ↦ cc
        | Aborts y key what is held to ↦ cc
      ]
