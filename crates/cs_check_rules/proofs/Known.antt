-- Nothing is known of a key that wasn't named, so the known ones are among those that were.
use Rattle.std.proofs.Common.{◌≡◌, ℕ, ◌==◌, Bool, true, false, ◌&&◌, ◌||◌, List, [], ◌∷◌, ◌⊎◌, inl, inr, Some, None, refl, sym, ap, ◌∙◌, subst}
use Rattle.std.specs.Prelude.{if◌then◌else◌, nat_lt}
use Rattle.std.proofs.lemmas.Bool.{cases_Bool, both_ways, and_parts, eqb-true, ltb-true}
use Rattle.cs_base.specs.Lists.{IsIn}
use Rattle.cs_ledger.specs.Ledger.{Bytes}
use Rattle.cs_ledger.specs.Session.{Session, Rules, Key, Object, Dummy, Piece, key_eq, has_key, object_under, objects_in, used_up, read_only, anchor}
use Rattle.cs_ledger.specs.Table.{Vote, Abort, Unknown, Active, Table, Entry, Outcome, made, with_locks, with_vote, with_accepted, with_aborted, new_pieces, session_of, exec, start}
use Rattle.cs_ledger.proofs.Basics.{same_key, anchor_used}
use Rattle.cs_ledger.proofs.Changes.{Change, Nothing, Locks, Notes, Accepts, Aborts, change}
use Rattle.cs_check_rules.specs.Keys.{first_keys, start_keys, with_session_keys, keys_after, is_known_record, AreKnown}
use Rattle.cs_check_rules.proofs.Ordered.{first_rise, named_rise}
use Rattle.cs_check_rules.proofs.Same.{Covers, are_known}
use Rattle.cs_check_rules.proofs.Named.{comes, dummies_stay, dummy_comes, named_before, named_used, named_read, named_made}

none_under : (pieces : List Piece) (key : Key) → has_key key pieces ≡ false → object_under pieces key ≡ None
none_under [] key without = refl
none_under (piece ∷ pieces) key without =
    elim (cases_Bool (key_eq key piece.key)) [
      | inl same ↦ absurd (both_ways _ without (ap (λ b. b || has_key key pieces) same))
      | inr other ↦
          rw other (none_under pieces key (sym (ap (λ b. b || has_key key pieces) other) ∙ without))
    ]

-- ---- at the start

start_object : (rules : Rules) (shard : ℕ) (name : Bytes) → is_known_record ((start rules shard).at (Object name)) ≡ true →
    IsIn (Object name) (first_keys rules shard)
start_object rules shard name known =
    elim (cases_Bool (has_key (Object name) (objects_in rules shard rules.genesis))) [
      | inl has ↦ dummies_stay (Object name) shard rules.dummies _ (comes (Object name) (objects_in rules shard rules.genesis) [] has)
      | inr without ↦
          let none = none_under (objects_in rules shard rules.genesis) (Object name) without in
          absurd (both_ways _ (ap (λ o. is_known_record (record { state = made o Unknown; book = [] })) none) known)
    ]

start_dummy : (rules : Rules) (shard s serial : ℕ) → is_known_record ((start rules shard).at (Dummy s serial)) ≡ true →
    IsIn (Dummy s serial) (first_keys rules shard)
start_dummy rules shard s serial known =
    elim (cases_Bool (s == shard && nat_lt serial rules.dummies)) [
      | inl first ↦
          let parts = and_parts (s == shard) (nat_lt serial rules.dummies) first in
          subst (λ (n : ℕ). IsIn (Dummy n serial) (first_keys rules shard)) (sym (eqb-true s shard parts.0))
          (dummy_comes shard serial rules.dummies _ (ltb-true serial rules.dummies parts.1))
      | inr later ↦
          absurd (both_ways _ (ap (λ b. is_known_record (record { state = if b then Active rules.dummy_object else Unknown; book = [] })) later) known)
    ]

start_covered : (rules : Rules) (shard : ℕ) → Covers (first_keys rules shard) (start rules shard)
start_covered rules shard (Object name) known = start_object rules shard name known
start_covered rules shard (Dummy s serial) known = start_dummy rules shard s serial known

pub start_known : (rules : Rules) (shard : ℕ) → AreKnown (start_keys rules shard) (start rules shard)
start_known rules shard =
    are_known (start rules shard) (first_keys rules shard) (first_rise rules shard) (start_covered rules shard)

-- ---- an entry

-- a key is named now, or its record stays as it was
abbrev NamedOrKept : Rules → ℕ → Table → Session → List Key → Table → Type 0
NamedOrKept rules shard t x keys after =
    (key : Key) → IsIn key (with_session_keys rules shard t x keys) ⊎ (after.at key ≡ t.at key)

module _ (rules : Rules) (shard : ℕ) (t : Table) (x : Session) (keys : List Key) where
  abbrev used : Key → Bool
  used key = has_key key (used_up rules x shard)

  abbrev read : Key → Bool
  read key = has_key key (read_only rules x shard)

  abbrev new : Key → Bool
  new key = has_key key (new_pieces rules shard t x)

  -- one of the keys that the session names, or none of them
  named_or_not : (key : Key) → IsIn key (with_session_keys rules shard t x keys) ⊎ (used key ≡ false) × (read key ≡ false)
  named_or_not key =
      elim (cases_Bool (used key)) [
        | inl is ↦ inl (named_used rules shard t x keys key is)
        | inr not_used ↦ elim (cases_Bool (read key)) [
          | inl is ↦ inl (named_read rules shard t x keys key is)
          | inr not_read ↦ inr (not_used, not_read)
        ]
      ]

  locked_or_kept : NamedOrKept rules shard t x keys (with_locks t x.digest (used_up rules x shard) (read_only rules x shard))
  locked_or_kept key =
      elim (named_or_not key) [
        | inl named ↦ inl named
        | inr others ↦ inr (rw (others.0, others.1) refl)
      ]

  module _ (key : Key) (is : anchor rules x shard ≡ Some key) where
    at_anchor : (name : Key) → key_eq name key ≡ true → IsIn name (with_session_keys rules shard t x keys)
    at_anchor name same =
        named_used rules shard t x keys name
        (subst (λ (k : Key). used k ≡ true) (sym (same_key name key same)) (anchor_used rules x shard key is))

    noted_or_kept : (vote : Vote) → NamedOrKept rules shard t x keys (with_vote t key x.digest vote)
    noted_or_kept vote name =
        elim (cases_Bool (key_eq name key)) [
          | inl same ↦ inl (at_anchor name same)
          | inr other ↦ inr (rw other refl)
        ]

    aborted_or_kept : NamedOrKept rules shard t x keys (with_aborted t x.digest key (used_up rules x shard) (read_only rules x shard))
    aborted_or_kept name =
        elim (cases_Bool (key_eq name key)) [
          | inl same ↦ inl (at_anchor name same)
          | inr other ↦ elim (named_or_not name) [
            | inl named ↦ inl named
            | inr others ↦ inr (rw (others.0, others.1, other) refl)
          ]
        ]

  accepted_or_kept : NamedOrKept rules shard t x keys (with_accepted rules shard t x)
  accepted_or_kept key =
      elim (named_or_not key) [
        | inl named ↦ inl named
        | inr others ↦ elim (cases_Bool (new key)) [
          | inl is ↦ inl (named_made rules shard t x keys key is)
          | inr not_new ↦ inr (rw (others.0, others.1, none_under (new_pieces rules shard t x) key not_new) refl)
        ]
      ]

module _ (rules : Rules) (shard : ℕ) (t : Table) (keys : List Key) where
  abbrev KeptBy : Session → Table → Type 0
  KeptBy x after = NamedOrKept rules shard t x keys after

  by_change : (entry : Entry) (out : Outcome) → Change rules shard t entry out → KeptBy (session_of entry) out.table
  by_change entry out (Nothing same idle repeats) = λ key. inr (ap (λ (after : Table). after.at key) same)
  by_change entry out (Locks x key what is free ready to) =
      subst (λ (e : Entry). KeptBy (session_of e) out.table) (sym what)
      (subst (λ (o : Outcome). KeptBy x o.table) (sym to) (locked_or_kept rules shard t x keys))
  by_change entry out (Notes x key what is free to) =
      subst (λ (e : Entry). KeptBy (session_of e) out.table) (sym what)
      (subst (λ (o : Outcome). KeptBy x o.table) (sym to) (noted_or_kept rules shard t x keys key is Abort))
  by_change entry out (Accepts x key what is held to) =
      subst (λ (e : Entry). KeptBy (session_of e) out.table) (sym what)
      (subst (λ (o : Outcome). KeptBy x o.table) (sym to) (accepted_or_kept rules shard t x keys))
  by_change entry out (Aborts x key what is held to) =
      subst (λ (e : Entry). KeptBy (session_of e) out.table) (sym what)
      (subst (λ (o : Outcome). KeptBy x o.table) (sym to) (aborted_or_kept rules shard t x keys key is))

  exec_covered : (entry : Entry) → Covers keys t →
      Covers (with_session_keys rules shard t (session_of entry) keys) (exec rules shard t entry).table
  exec_covered entry covers key known =
      elim (by_change entry (exec rules shard t entry) (change rules shard t entry) key) [
        | inl named ↦ named
        | inr same ↦
            named_before rules shard t (session_of entry) keys key
            (covers key (ap is_known_record (sym same) ∙ known))
      ]

  pub exec_known : (entry : Entry) → AreKnown keys t →
      AreKnown (keys_after rules shard t entry keys) (exec rules shard t entry).table
  exec_known entry known =
      are_known (exec rules shard t entry).table (with_session_keys rules shard t (session_of entry) keys)
      (named_rise rules shard t (session_of entry) keys known.rising) (exec_covered entry known.all)
