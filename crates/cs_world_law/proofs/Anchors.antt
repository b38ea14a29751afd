-- A session has an anchor in each shard that it concerns, so a Prepare of it gives a vote there.
use Rattle.std.proofs.Common.{◌≡◌, ℕ, true, ◌&&◌, ◌||◌, List, [], ◌∷◌, ◌++◌, Option, Some, None, inl, inr, refl, sym, subst, if◌then◌else◌}
use Rattle.std.specs.Prelude.{◌==◌, is_some}
use Rattle.std.proofs.lemmas.Bool.{cond_both, and_parts, and_from, or_cases, eqb-true, both_ways}
use Rattle.cs_ledger.specs.Ledger.{Item, is_well_formed}
use Rattle.cs_ledger.specs.Session.{Rules, Session, Key, Piece, DummyName, is_among, concerns, objects_in, dummies_in, used_up, read_only, first_key, anchor, has_dummy, are_rising, each_is_wanted, each_is_served, has_its_dummies, all_items, well_formed}
use Rattle.cs_ledger.specs.Table.{Vote, Table, Prepare, Void, Outcome, is_held_by, vote_in, is_inactive, has_room, is_ready, prepare_unless, act, exec}
use Rattle.cs_node_rules.specs.World.{is_voted}

module _ (rules : Rules) (shard : ℕ) where
  -- what is of the shard comes first there
  object-first : (items : List Item) (more : List Piece) → is_among rules shard items ≡ true → is_some (first_key (objects_in rules shard items ++ more)) ≡ true
  object-first [] more among = cc
  object-first (item ∷ items) more among =
      cond_both (rules.shard_of item.name == shard) _ (objects_in rules shard items) (λ l. is_some (first_key (l ++ more)) ≡ true)
      (λ here. refl)
      (λ other. elim (or_cases _ _ among) [ inl here ↦ absurd (both_ways _ other here) | inr later ↦ object-first items more later ])

  dummy-first : (front : List Piece) (dummies : List DummyName) → has_dummy shard dummies ≡ true → is_some (first_key (front ++ dummies_in rules shard dummies)) ≡ true
  dummy-first (piece ∷ front) dummies has = refl
  dummy-first [] [] has = cc
  dummy-first [] (dummy ∷ dummies) has =
      cond_both (dummy.shard == shard) _ (dummies_in rules shard dummies) (λ l. is_some (first_key l) ≡ true)
      (λ here. refl)
      (λ other. elim (or_cases _ _ has) [ inl here ↦ absurd (both_ways _ other here) | inr later ↦ dummy-first [] dummies later ])

  served : (x : Session) (items : List Item) → each_is_served rules x items ≡ true → is_among rules shard items ≡ true → (is_among rules shard x.transaction.inputs || has_dummy shard x.dummies) ≡ true
  served x [] each among = cc
  served x (item ∷ items) each among =
      elim (or_cases _ _ among) [
        | inl here ↦ subst (λ s. (is_among rules s x.transaction.inputs || has_dummy s x.dummies) ≡ true) (eqb-true _ _ here) (and_parts _ _ each).0
        | inr later ↦ served x items (and_parts _ _ each).1 later
      ]

  pub has-anchor : (x : Session) → well_formed rules x ≡ true → concerns rules x shard ≡ true → is_some (anchor rules x shard) ≡ true
  has-anchor x well among =
      let dummies = (and_parts (is_well_formed x.transaction) (has_its_dummies rules x) well).1 in
      let items = (and_parts (are_rising x.dummies) (each_is_wanted rules x.transaction x.dummies && each_is_served rules x (all_items x.transaction)) dummies).1 in
      let each = (and_parts (each_is_wanted rules x.transaction x.dummies) (each_is_served rules x (all_items x.transaction)) items).1 in
      elim (or_cases _ _ (served x (all_items x.transaction) each among)) [
        | inl input ↦ object-first x.transaction.inputs (dummies_in rules shard x.dummies) input
        | inr dummy ↦ dummy-first (objects_in rules shard x.transaction.inputs) x.dummies dummy
      ]

  abbrev Votes : Outcome → Type 0
  Votes o = is_voted o.effect ≡ true

  anchor-votes : (t : Table) (x : Session) (o : Option Key) → is_some o ≡ true → Votes (act rules shard t (Prepare x) o)
  anchor-votes t x None some = cc
  anchor-votes t x (Some key) some =
      cond_both (is_held_by x.digest (t.at key).state) _ _ Votes (λ e. refl) (λ e. unless (vote_in (t.at key).book x.digest))
    where
      unless : (vote : Option Vote) → Votes (prepare_unless t x.digest key (used_up rules x shard) (read_only rules x shard) vote)
      unless (Some vote) = refl
      unless None =
          cond_both (is_inactive (t.at key).state) _ _ Votes (λ e. refl)
          (λ e. cond_both (has_room (t.at key).book) _ _ Votes
          (λ e. cond_both (is_ready t (used_up rules x shard) (read_only rules x shard)) _ _ Votes (λ e. refl) (λ e. refl))
          (λ e. refl))

  pub prepare-votes : (t : Table) (x : Session) → well_formed rules x ≡ true → concerns rules x shard ≡ true → is_voted (exec rules shard t (Prepare x)).effect ≡ true
  prepare-votes t x well among =
      let void : Outcome = record { table = t; effect = Void } in
      subst (λ b. Votes (if b then act rules shard t (Prepare x) (anchor rules x shard) else void)) (sym (and_from _ _ well among)) (anchor-votes t x (anchor rules x shard) (has-anchor x well among))
