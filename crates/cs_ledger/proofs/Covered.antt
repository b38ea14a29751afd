-- What the ledger says of the objects in a table.
use Rattle.std.proofs.Common.{◌≡◌, ℕ, List, [], ◌∷◌, Bool, true, false, ◌⊎◌, inl, inr, Option, Some, None, refl, sym, ap, ◌∙◌, subst}
use Rattle.std.specs.Prelude.{bytes_eq, ◌==◌, if◌then◌else◌}
use Rattle.std.proofs.lemmas.Bool.{cond_both, both_ways, eq-eqb}
use Rattle.cs_base.specs.Lists.{IsIn}
use Rattle.cs_ledger.specs.Ledger.{Bytes, Item, Transaction, names, has, object_named}
use Rattle.cs_ledger.specs.Session.{AreToldApart, Session, Rules, Key, Object, Piece, has_key, object_under, objects_in, used_up, read_only, anchor}
use Rattle.cs_ledger.specs.Table.{Abort, State, Unknown, Locked, Table, Entry, is_locked_by, locked, released, joined_by, vacated_by, lock_state, undo_state, made, accept_state, with_locks, with_vote, with_accepted, with_aborted, new_pieces, session_of, exec, start}
use Rattle.cs_ledger.proofs.Basics.{same_bytes}
use Rattle.cs_ledger.proofs.Names.{used_object, read_object, new_object, object_piece, under_piece}
use Rattle.cs_ledger.proofs.Changes.{Nothing, Locks, Notes, Accepts, Aborts, change}
use Rattle.cs_ledger.proofs.States.{IsReadable, lock_cases, lock_readable, lock_unknown, accept_readable, accept_locked, accept_unknown, undo_readable, undo_locked, undo_unknown}
use Rattle.cs_ledger.proofs.Kept.{Kept, Known, Holding, own, held_is_locked, two_locks}
use Rattle.cs_ledger.proofs.Entries.{IsBacked, same_out}

-- the session has all its commit votes and the name is one of its inputs
pub record Takes_up (commits : Session → Type 0) (name : Bytes) (x : Session) : Type 0 where
  pub all : commits x
  pub input : has name (names x.transaction.inputs) ≡ true

pub record Covered (rules : Rules) (known : List Session) (commits : Session → Type 0) (active : Bytes → Option Bytes) (history : List Transaction) (shard : ℕ) (t : Table) : Type 0 where
  pub active_is : (name object : Bytes) → IsReadable object (t.at (Object name)).state → active name ≡ Some object
  pub locked_is : (name object d : Bytes) → (t.at (Object name)).state ≡ Locked object d → (active name ≡ Some object) ⊎ Known known (Takes_up commits name) d
  pub home : (name : Bytes) → ((t.at (Object name)).state ≡ Unknown) ⊎ (rules.shard_of name ≡ shard)
  pub unknown_is : (name : Bytes) → (t.at (Object name)).state ≡ Unknown → rules.shard_of name ≡ shard → (tx : Transaction) → IsIn tx history → (item : Item) → IsIn item tx.outputs → item.name ≡ name → active name ≡ Some item.object

at_home : (P : Type 0) (state other : State) → (state ≡ Unknown) ⊎ P → state ≡ other → (Unknown ≡ other → ⊥) → P
at_home P state other (inl u) e differs = absurd (differs (sym u ∙ e))
at_home P state other (inr p) e differs = p

made_unknown : (P : Type 0) (new : Option Bytes) (state : State) → state ≡ Unknown → ((object : Bytes) → new ≡ Some object → P) → (made new state ≡ Unknown) ⊎ P
made_unknown P None state e f = inl e
made_unknown P (Some object) state e f = inr (f object refl)

accept_home : (P : Type 0) (used read : Bool) (d : Bytes) (new : Option Bytes) (state : State) → (used ≡ true → P) → (read ≡ true → P) → ((object : Bytes) → new ≡ Some object → P) → (state ≡ Unknown) ⊎ P → (accept_state used read d new state ≡ Unknown) ⊎ P
accept_home P used read d new state u r n (inr p) = inr p
accept_home P true read d new state u r n (inl e) = inr (u refl)
accept_home P false true d new state u r n (inl e) = inr (r refl)
accept_home P false false d new state u r n (inl e) = made_unknown P new state e n

lock_home : (P : Type 0) (used read : Bool) (d : Bytes) (state : State) → (state ≡ Unknown) ⊎ P → (lock_state used read d state ≡ Unknown) ⊎ P
lock_home P true read d state (inl e) = inl (ap (locked d) e)
lock_home P false true d state (inl e) = inl (ap (joined_by d) e)
lock_home P false false d state (inl e) = inl e
lock_home P used read d state (inr p) = inr p

undo_home : (P : Type 0) (used read : Bool) (d : Bytes) (state : State) → (state ≡ Unknown) ⊎ P → (undo_state used read d state ≡ Unknown) ⊎ P
undo_home P true read d state (inl e) = inl (ap released e)
undo_home P false true d state (inl e) = inl (ap (vacated_by d) e)
undo_home P false false d state (inl e) = inl e
undo_home P used read d state (inr p) = inr p

module _ (rules : Rules) (known : List Session) (unique : AreToldApart known) (commits aborts : Session → Type 0) (active : Bytes → Option Bytes) (history : List Transaction) (listed : (x : Session) → IsIn x known → commits x → IsIn x.transaction history) (no_both : (x : Session) → IsIn x known → commits x → aborts x → ⊥) (shard : ℕ) (t : Table) (kept : Kept rules known commits aborts shard t) (covered : Covered rules known commits active history shard t) where
  module _ (y : Session) (knows : IsIn y known) (key : Key) (is : anchor rules y shard ≡ Some key) where
    covered_lock : Covered rules known commits active history shard (with_locks t y.digest (used_up rules y shard) (read_only rules y shard))
    covered_lock =
        let used = λ (name : Bytes). has_key (Object name) (used_up rules y shard) in
        let read = λ (name : Bytes). has_key (Object name) (read_only rules y shard) in
        record {
          active_is = λ name object e. covered.active_is name object (lock_readable (used name) (read name) y.digest (t.at (Object name)).state object e);
          locked_is = λ name object d e.
              elim (lock_cases (used name) (read name) y.digest (t.at (Object name)).state object d e) [
                | inl before ↦ covered.locked_is name object d before
                | inr now ↦ inl (covered.active_is name object (inl now.1))
              ];
          home = λ name. lock_home (rules.shard_of name ≡ shard) (used name) (read name) y.digest (t.at (Object name)).state (covered.home name);
          unknown_is = λ name e. covered.unknown_is name (lock_unknown (used name) (read name) y.digest (t.at (Object name)).state e);
        }

    -- a key that the session holds, and that the ledger does not have, is one of its inputs
    own_input : Holding rules shard t y → (name object d : Bytes) → has_key (Object name) (used_up rules y shard) ≡ true → (t.at (Object name)).state ≡ Locked object d → Known known (Takes_up commits name) d → commits y
    own_input hy name object d has e by =
        let l = held_is_locked rules known unique shard t y hy (Object name) has in
        let same : by.x.digest ≡ y.digest = by.digest ∙ two_locks rules known unique shard t _ object l.0 d y.digest e l.1 in
        let xy : by.x ≡ y = unique by.x y by.knows knows same in
        subst commits xy by.holds.all

    covered_accept : is_locked_by y.digest (t.at key).state ≡ true → commits y → Covered rules known commits active history shard (with_accepted rules shard t y)
    covered_accept held all =
        let hy = own rules known unique shard t commits aborts kept y knows key is held in
        record {
          active_is = λ name object e.
              elim (accept_readable (has_key (Object name) (used_up rules y shard)) (has_key (Object name) (read_only rules y shard)) y.digest (object_under (new_pieces rules shard t y) (Object name)) (t.at (Object name)).state object e) [
                | inl before ↦ covered.active_is name object before
                | inr new ↦
                    let n = new_object rules y shard t name object new.1 in
                    covered.unknown_is name new.0 n.4 y.transaction (listed y knows all) n.0 n.1 n.2 ∙ ap Some n.3
              ];
          locked_is = λ name object d e.
              covered.locked_is name object d (accept_locked (has_key (Object name) (used_up rules y shard)) (has_key (Object name) (read_only rules y shard)) y.digest (object_under (new_pieces rules shard t y) (Object name)) (t.at (Object name)).state object d e).1;
          home = λ name.
              accept_home (rules.shard_of name ≡ shard) (has_key (Object name) (used_up rules y shard)) (has_key (Object name) (read_only rules y shard)) y.digest (object_under (new_pieces rules shard t y) (Object name)) (t.at (Object name)).state
              (λ u. (used_object rules y shard name u).3)
              (λ r. read_object rules y shard name r)
              (λ object n. (new_object rules y shard t name object n).4)
              (covered.home name);
          unknown_is = λ name e.
              covered.unknown_is name (accept_unknown (has_key (Object name) (used_up rules y shard)) (has_key (Object name) (read_only rules y shard)) y.digest (object_under (new_pieces rules shard t y) (Object name)) (t.at (Object name)).state e);
        }

    covered_abort : is_locked_by y.digest (t.at key).state ≡ true → aborts y → Covered rules known commits active history shard (with_aborted t y.digest key (used_up rules y shard) (read_only rules y shard))
    covered_abort held one =
        let hy = own rules known unique shard t commits aborts kept y knows key is held in
        record {
          active_is = λ name object e.
              elim (undo_readable (has_key (Object name) (used_up rules y shard)) (has_key (Object name) (read_only rules y shard)) y.digest (t.at (Object name)).state object e) [
                | inl before ↦ covered.active_is name object before
                | inr lost ↦
                    elim (covered.locked_is name object lost.1.0 lost.1.1) [
                      | inl there ↦ there
                      | inr by ↦ absurd (no_both y knows (own_input hy name object lost.1.0 lost.0 lost.1.1 by) one)
                    ]
              ];
          locked_is = λ name object d e. covered.locked_is name object d (undo_locked (has_key (Object name) (used_up rules y shard)) (has_key (Object name) (read_only rules y shard)) y.digest (t.at (Object name)).state object d e).1;
          home = λ name. undo_home (rules.shard_of name ≡ shard) (has_key (Object name) (used_up rules y shard)) (has_key (Object name) (read_only rules y shard)) y.digest (t.at (Object name)).state (covered.home name);
          unknown_is = λ name e. covered.unknown_is name (undo_unknown (has_key (Object name) (used_up rules y shard)) (has_key (Object name) (read_only rules y shard)) y.digest (t.at (Object name)).state e);
        }

    covered_note : Covered rules known commits active history shard (with_vote t key y.digest Abort)
    covered_note =
        record { active_is = covered.active_is; locked_is = covered.locked_is; home = covered.home; unknown_is = covered.unknown_is }

  pub covered_entry : (entry : Entry) → IsIn (session_of entry) known → IsBacked commits aborts entry → Covered rules known commits active history shard (exec rules shard t entry).table
  covered_entry entry knows backed =
      let P : Table → Type 0 = λ z. Covered rules known commits active history shard z in
      elim (change rules shard t entry) [
        | Nothing same idle repeats ↦ subst P (sym same) covered
        | Locks y key what is free ready to ↦ same_out P _ _ to (covered_lock y (subst (λ e. IsIn (session_of e) known) what knows) key is)
        | Notes y key what is free to ↦ same_out P _ _ to (covered_note y (subst (λ e. IsIn (session_of e) known) what knows) key is)
        | Accepts y key what is held to ↦ same_out P _ _ to (covered_accept y (subst (λ e. IsIn (session_of e) known) what knows) key is held (subst (λ e. IsBacked commits aborts e) what backed))
        | Aborts y key what is held to ↦ same_out P _ _ to (covered_abort y (subst (λ e. IsIn (session_of e) known) what knows) key is held (subst (λ e. IsBacked commits aborts e) what backed))
      ]

made_active : (o : Option Bytes) (object : Bytes) → IsReadable object (made o Unknown) → o ≡ Some object
made_active None object (inl e) = cc
made_active None object (inr s) = absurd (let q = s.1 in cc)
made_active (Some other) object (inl e) = let q : other ≡ object = cc in ap Some q
made_active (Some other) object (inr s) = absurd (let q = s.1 in cc)

made_is_unknown : (o : Option Bytes) → (made o Unknown ≡ Unknown) ⊎ ((object : Bytes) × (o ≡ Some object))
made_is_unknown None = inl refl
made_is_unknown (Some object) = inr (object, refl)

under_home : (rules : Rules) (shard : ℕ) (items : List Item) (name object : Bytes) → object_under (objects_in rules shard items) (Object name) ≡ Some object → rules.shard_of name ≡ shard
under_home rules shard items name object e =
    let p = under_piece _ _ _ e in
    let r = object_piece rules shard items p.0 p.1 in
    let k : Object name ≡ Object r.item.name = p.2 ∙ ap (λ (z : Piece). z.key) r.is in
    let q : name ≡ r.item.name = cc in
    ap rules.shard_of q ∙ r.home

-- the object that a shard starts with is the ledger's
under_at : (rules : Rules) (shard : ℕ) (items : List Item) (name object : Bytes) → object_under (objects_in rules shard items) (Object name) ≡ Some object → object_named items name ≡ Some object
under_at rules shard [] name object e = cc
under_at rules shard (item ∷ items) name object e =
    let piece : Piece = record { key = Object item.name; object = item.object } in
    let home = under_home rules shard (item ∷ items) name object e in
    cond_both (rules.shard_of item.name == shard) (piece ∷ objects_in rules shard items) (objects_in rules shard items) (λ l. object_under l (Object name) ≡ Some object → object_named (item ∷ items) name ≡ Some object)
    (λ here. cond_both (bytes_eq name item.name) (Some item.object) (object_under (objects_in rules shard items) (Object name)) (λ o. o ≡ Some object → object_named (item ∷ items) name ≡ Some object)
    (λ t q. ap (λ (b : Bool). if b then Some item.object else object_named items name) t ∙ q)
    (λ t q. ap (λ (b : Bool). if b then Some item.object else object_named items name) t ∙ under_at rules shard items name object q))
    (λ away q. cond_both (bytes_eq name item.name) (Some item.object) (object_named items name) (λ o. o ≡ Some object)
    (λ t. absurd (both_ways _ away (ap (λ n. rules.shard_of n == shard) (sym (same_bytes _ _ t)) ∙ eq-eqb _ _ home)))
    (λ t. under_at rules shard items name object q))
    e

pub covered_start : (rules : Rules) (known : List Session) (commits : Session → Type 0) (shard : ℕ) → Covered rules known commits (object_named rules.genesis) [] shard (start rules shard)
covered_start rules known commits shard =
    let under = λ (name : Bytes). object_under (objects_in rules shard rules.genesis) (Object name) in
    record {
      active_is = λ name object e. under_at rules shard rules.genesis name object (made_active (under name) object e);
      locked_is = λ name object d e. absurd (not_locked (under name) object d e);
      home = λ name. elim (made_is_unknown (under name)) [ inl u ↦ inl u | inr s ↦ inr (under_home rules shard rules.genesis name s.0 s.1) ];
      unknown_is = λ name e home tx h. absurd h;
    }
  where
    not_locked : (o : Option Bytes) (object d : Bytes) → made o Unknown ≡ Locked object d → ⊥
    not_locked None object d e = cc
    not_locked (Some other) object d e = cc
