-- An object that a shard knows was there at the start, or is an output of a session that has used up its anchor there.
use Rattle.std.proofs.Common.{◌≡◌, ◌⊎◌, inl, inr, ℕ, Bool, true, false, List, [], ◌∷◌, Option, Some, None, refl, sym, ap, ◌∙◌, subst}
use Rattle.std.proofs.lemmas.Bool.{cases_Bool}
use Rattle.cs_base.specs.Lists.{IsIn}
use Rattle.cs_ledger.specs.Ledger.{Bytes, Item, names}
use Rattle.cs_ledger.specs.Session.{AreToldApart, Session, Rules, Key, Object, Piece, has_key, objects_in, object_under, used_up, read_only, anchor, all_items}
use Rattle.cs_ledger.specs.Table.{Commit, State, Unknown, Locked, Inactive, Shared, Table, Entry, is_locked_by, made, lock_state, undo_state, accept_state, new_pieces, session_of, exec, table_of, start}
use Rattle.cs_ledger.specs.ShardWorld.{Step, log, AllAllowed, sessions}
use Rattle.cs_ledger.proofs.Basics.{anchor_used, has_piece}
use Rattle.cs_ledger.proofs.Changes.{Nothing, Locks, Notes, Accepts, Aborts, change}
use Rattle.cs_ledger.proofs.Kept.{Kept, Holding, own, held_is_locked}
use Rattle.cs_ledger.proofs.Entries.{IsBacked, same_out}
use Rattle.cs_ledger.proofs.Names.{new_object, object_piece, under_piece, item_named}
use Rattle.cs_ledger.proofs.Votes.{log_at, all_more, commits_in, aborts_in, backed, facts_of}

-- an output of a session that is accepted here
pub record IsMaker (rules : Rules) (known : List Session) (commits : Session → Type 0) (shard : ℕ) (t : Table) (name : Bytes) : Type 0 where
  pub y : Session
  pub knows : IsIn y known
  pub all : commits y
  pub key : Key
  pub is : anchor rules y shard ≡ Some key
  pub gone : (t.at key).state ≡ Inactive y.digest
  pub item : Item
  pub output : IsIn item y.transaction.outputs
  pub named : item.name ≡ name

abbrev pub HasOrigins : Rules → List Session → (Session → Type 0) → ℕ → Table → Type 0
HasOrigins rules known commits shard t =
    (name : Bytes) → ((t.at (Object name)).state ≡ Unknown) ⊎ (IsIn name (names rules.genesis) ⊎ IsMaker rules known commits shard t name)

lock-unknown : (used read : Bool) (d : Bytes) (s : State) → s ≡ Unknown → lock_state used read d s ≡ Unknown
lock-unknown true read d s e = ap (lock_state true read d) e
lock-unknown false true d s e = ap (lock_state false true d) e
lock-unknown false false d s e = e

lock-inactive : (used read : Bool) (d by : Bytes) (s : State) → s ≡ Inactive by → lock_state used read d s ≡ Inactive by
lock-inactive true read d by s e = ap (lock_state true read d) e
lock-inactive false true d by s e = ap (lock_state false true d) e
lock-inactive false false d by s e = e

undo-unknown : (used read : Bool) (d : Bytes) (s : State) → s ≡ Unknown → undo_state used read d s ≡ Unknown
undo-unknown true read d s e = ap (undo_state true read d) e
undo-unknown false true d s e = ap (undo_state false true d) e
undo-unknown false false d s e = e

undo-inactive : (used read : Bool) (d by : Bytes) (s : State) → s ≡ Inactive by → undo_state used read d s ≡ Inactive by
undo-inactive true read d by s e = ap (undo_state true read d) e
undo-inactive false true d by s e = ap (undo_state false true d) e
undo-inactive false false d by s e = e

module _ (rules : Rules) (known : List Session) (unique : AreToldApart known) (commits aborts : Session → Type 0) (shard : ℕ) (t : Table) (kept : Kept rules known commits aborts shard t) where
  -- makers stay where inactive anchors do
  maker-stays : (u : Table) (name : Bytes) → ((key : Key) (by : Bytes) → (t.at key).state ≡ Inactive by → (u.at key).state ≡ Inactive by) → IsMaker rules known commits shard t name → IsMaker rules known commits shard u name
  maker-stays u name stays m = record { y = m.y; knows = m.knows; all = m.all; key = m.key; is = m.is; gone = stays m.key m.y.digest m.gone; item = m.item; output = m.output; named = m.named }

  origins-stay : (u : Table) → ((key : Key) (by : Bytes) → (t.at key).state ≡ Inactive by → (u.at key).state ≡ Inactive by)
      → ((key : Key) → (t.at key).state ≡ Unknown → (u.at key).state ≡ Unknown) → HasOrigins rules known commits shard t → HasOrigins rules known commits shard u
  origins-stay u gone unknown origins name =
      elim (origins name) [
        | inl none ↦ inl (unknown (Object name) none)
        | inr from ↦ inr (elim from [ inl first ↦ inl first | inr m ↦ inr (maker-stays u name gone m) ])
      ]

  -- a session that holds its keys uses up and reads no key that is Inactive, and none that is Unknown
  pub free : (x : Session) (key : Key) (state : State) → Holding rules shard t x → (t.at key).state ≡ state → ((object : Bytes) → Locked object x.digest ≡ state → ⊥)
      → ((object : Bytes) (readers : List Bytes) → Shared object readers ≡ state → ⊥)
      → (has_key key (used_up rules x shard) ≡ false) × (has_key key (read_only rules x shard) ≡ false)
  free x key state h e not shared = (
    elim (cases_Bool (has_key key (used_up rules x shard))) [
      | inl has ↦ let l = held_is_locked rules known unique shard t x h key has in absurd (not l.0 (sym l.1 ∙ e))
      | inr lacks ↦ lacks
    ],
    elim (cases_Bool (has_key key (read_only rules x shard))) [
      | inl has ↦
          let p = has_piece key (read_only rules x shard) has in
          let at : (t.at p.0.key).state ≡ state = ap (λ k. (t.at k).state) (sym p.2) ∙ e in
          elim (h.reads p.0 p.1) [
            | inl l ↦ absurd (not p.0.object (sym l ∙ at))
            | inr s ↦ absurd (shared p.0.object s.0 (sym s.1 ∙ at))
          ]
      | inr lacks ↦ lacks
    ],
  )

  module _ (x : Session) (knows : IsIn x known) (key : Key) (is : anchor rules x shard ≡ Some key) (held : is_locked_by x.digest (t.at key).state ≡ true) (all : commits x) where
    holding : Holding rules shard t x
    holding = own rules known unique shard t commits aborts kept x knows key is held

    abbrev After : Key → State → State
    After k s = accept_state (has_key k (used_up rules x shard)) (has_key k (read_only rules x shard)) x.digest (object_under (new_pieces rules shard t x) k) s

    -- what is Inactive stays so
    still-gone : (k : Key) (by : Bytes) → (t.at k).state ≡ Inactive by → After k (t.at k).state ≡ Inactive by
    still-gone k by e =
        let f = free x k (Inactive by) holding e (λ object q. cc) (λ object readers q. cc) in
        ap (λ b. accept_state b (has_key k (read_only rules x shard)) x.digest (object_under (new_pieces rules shard t x) k) (t.at k).state) f.0
        ∙ ap (λ b. accept_state false b x.digest (object_under (new_pieces rules shard t x) k) (t.at k).state) f.1
        ∙ ap (λ s. made (object_under (new_pieces rules shard t x) k) s) e
        ∙ same (object_under (new_pieces rules shard t x) k)
      where
        same : (o : Option Bytes) → made o (Inactive by) ≡ Inactive by
        same None = refl
        same (Some object) = refl

    -- what was Unknown is a new object, or stays so
    appears : (name : Bytes) → (t.at (Object name)).state ≡ Unknown → (After (Object name) (t.at (Object name)).state ≡ Unknown) ⊎ ((item : Item) × (IsIn item x.transaction.outputs) × (item.name ≡ name))
    appears name e =
        let k = Object name in
        let f = free x k Unknown holding e (λ object q. cc) (λ object readers q. cc) in
        let is = ap (λ b. accept_state b (has_key k (read_only rules x shard)) x.digest (object_under (new_pieces rules shard t x) k) (t.at k).state) f.0
        ∙ ap (λ b. accept_state false b x.digest (object_under (new_pieces rules shard t x) k) (t.at k).state) f.1
        ∙ ap (λ s. made (object_under (new_pieces rules shard t x) k) s) e in
        new (object_under (new_pieces rules shard t x) k) refl is
      where
        new : (o : Option Bytes) → object_under (new_pieces rules shard t x) (Object name) ≡ o → After (Object name) (t.at (Object name)).state ≡ made o Unknown
            → (After (Object name) (t.at (Object name)).state ≡ Unknown) ⊎ ((item : Item) × (IsIn item x.transaction.outputs) × (item.name ≡ name))
        new None u is = inl is
        new (Some object) u is = let r = new_object rules x shard t name object u in inr (r.0, r.1, r.2)

    origins-accepted : (u : Table) → ((k : Key) → (u.at k).state ≡ After k (t.at k).state) → HasOrigins rules known commits shard t → HasOrigins rules known commits shard u
    origins-accepted u at origins name =
        elim (origins name) [
          | inr from ↦ inr (elim from [ inl first ↦ inl first | inr m ↦ inr (maker-stays u name (λ k by e. at k ∙ still-gone k by e) m) ])
          | inl none ↦ elim (appears name none) [
            | inl still ↦ inl (at (Object name) ∙ still)
            | inr new ↦ inr (inr (record {
              y = x;
              knows = knows;
              all = all;
              key = key;
              is = is;
              gone = at key ∙ ap (λ b. accept_state b (has_key key (read_only rules x shard)) x.digest (object_under (new_pieces rules shard t x) key) (t.at key).state) (anchor_used rules x shard key is);
              item = new.0;
              output = new.1;
              named = new.2;
            }))
          ]
        ]

  origins-entry : (entry : Entry) → IsIn (session_of entry) known → IsBacked commits aborts entry → HasOrigins rules known commits shard t → HasOrigins rules known commits shard (exec rules shard t entry).table
  origins-entry entry knows backed origins =
      elim (change rules shard t entry) [
        | Nothing same idle repeats ↦ subst (λ z. HasOrigins rules known commits shard z) (sym same) origins
        | Locks x key what is unvoted ready to ↦
            same_out (λ z. HasOrigins rules known commits shard z) _ _ to
            (origins-stay _ (λ k by. lock-inactive (has_key k (used_up rules x shard)) (has_key k (read_only rules x shard)) x.digest by (t.at k).state) (λ k. lock-unknown (has_key k (used_up rules x shard)) (has_key k (read_only rules x shard)) x.digest (t.at k).state) origins)
        | Notes x key what is unvoted to ↦
            same_out (λ z. HasOrigins rules known commits shard z) _ _ to (origins-stay _ (λ k by e. e) (λ k e. e) origins)
        | Accepts x key what is held to ↦
            same_out (λ z. HasOrigins rules known commits shard z) _ _ to
            (origins-accepted x (subst (λ e. IsIn (session_of e) known) what knows) key is held (subst (λ e. IsBacked commits aborts e) what backed) _ (λ k. refl) origins)
        | Aborts x key what is held to ↦
            same_out (λ z. HasOrigins rules known commits shard z) _ _ to
            (origins-stay _ (λ k by. undo-inactive (has_key k (used_up rules x shard)) (has_key k (read_only rules x shard)) x.digest by (t.at k).state) (λ k. undo-unknown (has_key k (used_up rules x shard)) (has_key k (read_only rules x shard)) x.digest (t.at k).state) origins)
      ]

-- at the start there are the genesis objects alone
origins-start : (rules : Rules) (known : List Session) (commits : Session → Type 0) (shard : ℕ) → HasOrigins rules known commits shard (start rules shard)
origins-start rules known commits shard name = first (object_under (objects_in rules shard rules.genesis) (Object name)) refl
  where
    name-of : (a b : Bytes) → Object a ≡ Object b → b ≡ a
    name-of a b e = cc

    first : (o : Option Bytes) → object_under (objects_in rules shard rules.genesis) (Object name) ≡ o → (made o Unknown ≡ Unknown) ⊎ (IsIn name (names rules.genesis) ⊎ IsMaker rules known commits shard (start rules shard) name)
    first None e = inl refl
    first (Some object) e =
        let p = under_piece (objects_in rules shard rules.genesis) (Object name) object e in
        let i = object_piece rules shard rules.genesis p.0 p.1 in
        let same : i.item.name ≡ name = name-of name i.item.name (p.2 ∙ ap (λ (z : Piece). z.key) i.is) in
        inr (inl (subst (λ n. IsIn n (names rules.genesis)) same (item_named i.item rules.genesis i.within)))

module _ (rules : Rules) (known : List Session) (unique : AreToldApart known) where
  maker-more : (step : Step) (past : List Step) (shard : ℕ) (t : Table) → HasOrigins rules known (commits_in rules past) shard t → HasOrigins rules known (commits_in rules (step ∷ past)) shard t
  maker-more step past shard t origins name =
      elim (origins name) [
        | inl none ↦ inl none
        | inr from ↦ inr (elim from [
          | inl first ↦ inl first
          | inr m ↦ inr (record { y = m.y; knows = m.knows; all = (all_more rules step past m.y Commit (all_items m.y.transaction) m.all.0, m.all.1); key = m.key; is = m.is; gone = m.gone; item = m.item; output = m.output; named = m.named })
        ])
      ]

  pub origins-of : (past : List Step) → AllAllowed rules past → ((x : Session) → IsIn x (sessions past) → IsIn x known) → (shard : ℕ) → HasOrigins rules known (commits_in rules past) shard (table_of rules shard (log shard past))
  origins-of [] allowed within shard = origins-start rules known (commits_in rules []) shard
  origins-of (step ∷ past) allowed within shard =
      let before = origins-of past allowed.1 (λ x i. within x (inr i)) shard in
      let facts = facts_of rules known unique past allowed.1 (λ x i. within x (inr i)) in
      maker-more step past shard _
      (log_at (λ l. HasOrigins rules known (commits_in rules past) shard (table_of rules shard l)) shard step past
      (λ e. origins-entry rules known unique (commits_in rules past) (aborts_in rules past) shard (table_of rules shard (log shard past)) (facts.kept shard) step.entry (within (session_of step.entry) (inl refl)) (backed rules past step.shard step.entry allowed.0) before)
      before)
