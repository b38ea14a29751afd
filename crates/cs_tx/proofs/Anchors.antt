-- A well-formed session has an anchor in exactly the shards that it concerns.
use Rattle.std.proofs.Common.{◌≡◌, ℕ, suc, ◌+◌, ◌<◌, Bool, true, false, ◌||◌, ◌↔◌, List, [], ◌∷◌, ◌++◌, length, get_or, drop, Option, Some, None, refl, sym, ap, ◌∙◌, subst, inl, inr, add-one}
use Rattle.std.specs.Prelude.{◌==◌, if◌then◌else◌}
use Rattle.std.specs.Option.{IsNone, is_some}
use Rattle.std.specs.List.{find, flat_map, list_any, list_all}
use Rattle.std.proofs.Math.Seq.{drop-cons}
use Rattle.std.proofs.lemmas.List.{map-append}
use Rattle.std.proofs.lemmas.List.Folds.{find-append, list_any-append}
use Rattle.std.proofs.lemmas.Bool.{cases_Bool, and_parts, or_cases, or_left, eqb-true, both_ways, false_from_ne_true}
use Rattle.cs_base.specs.declared.config.Config.{Config}
use Rattle.cs_base.specs.declared.key.Key.{Key}
use Rattle.cs_base.specs.declared.key.Key.TheVariants as key
use Rattle.cs_tx_types.specs.declared.session.Session.{Session}
use Rattle.cs_tx_types.specs.declared.trace.Trace.{Trace}
use Rattle.cs_tx_types.specs.Transaction.{Keyed}
use Rattle.cs_tx.specs.Uses.{inputs_of, names, used_names, is_in, is_among, concerns, dummy_in, anchor_among, anchor_of}
use Rattle.cs_tx.specs.WellFormed.{IsWellFormed, wants_dummy, is_served}
use Rattle.cs_tx.proofs.Faults.{passed}

-- ---- the search over the traces

module _ (p : List ℕ → Bool) (traces : List Trace) (i : ℕ) (trace : Trace) (lt : i < length traces) (is : trace ≡ get_or traces i trace) where
  split : names (flat_map (λ t. t.inputs) (drop i traces)) ≡ names trace.inputs ++ names (flat_map (λ t. t.inputs) (drop (i + 1) traces))
  split =
      let left : drop i traces ≡ trace ∷ drop (i + 1) traces = rw add-one (drop-cons traces i trace lt ∙ ap (λ (t : Trace). t ∷ drop (suc i) traces) (sym is)) in
      rw left (map-append (λ (item : Keyed). item.0) trace.inputs (flat_map (λ (t : Trace). t.inputs) (drop (i + 1) traces)))

  pub found_here : (name : List ℕ) (whole : Option (List ℕ)) → find p (names trace.inputs) ≡ Some name
      → find p (names (flat_map (λ t. t.inputs) (drop i traces))) ≡ whole → Some name ≡ whole
  found_here name whole found e = sym (rw (split, find-append p (names trace.inputs), found) refl) ∙ e

  pub found_later : (whole : Option (List ℕ)) → find p (names trace.inputs) ≡ None
      → find p (names (flat_map (λ t. t.inputs) (drop i traces))) ≡ whole → find p (names (flat_map (λ t. t.inputs) (drop (i + 1) traces))) ≡ whole
  found_later whole none e = sym (rw (split, find-append p (names trace.inputs), none) refl) ∙ e

-- ---- whether something is found

is_some-find : (p : List ℕ → Bool) (xs : List (List ℕ)) → is_some (find p xs) ≡ list_any p xs
is_some-find p [] = refl
is_some-find p (x ∷ xs) = elim (p x) as (λ b. is_some (if b then Some x else find p xs) ≡ (b || list_any p xs)) [ true ↦ refl | false ↦ is_some-find p xs ]

is_some-dummy_in : (shard : ℕ) (dummies : List (ℕ × ℕ)) → is_some (dummy_in shard dummies) ≡ list_any (λ dummy. dummy.0 == shard) dummies
is_some-dummy_in shard [] = refl
is_some-dummy_in shard (d ∷ ds) =
    elim (d.0 == shard) as (λ b. is_some (if b then Some (key.Dummy d.0 d.1) else dummy_in shard ds) ≡ (b || list_any (λ dummy. dummy.0 == shard) ds)) [ true ↦ refl | false ↦ is_some-dummy_in shard ds ]

is_some-anchor_among : (name : Option (List ℕ)) (dummy : Option Key) → is_some (anchor_among name dummy) ≡ (is_some name || is_some dummy)
is_some-anchor_among (Some name) dummy = refl
is_some-anchor_among None dummy = refl

-- ---- in a shard with a dummy or an input, and in no other

module _ (config : Config) (x : Session) (shard : ℕ) where
  -- an input there, or a dummy
  abbrev has_one : Bool
  has_one = is_among config shard (names (inputs_of x.tx)) || list_any (λ dummy. dummy.0 == shard) x.dummies

  wants : (dummies : List (ℕ × ℕ)) → list_all (λ dummy. wants_dummy config (names (inputs_of x.tx)) (used_names x.tx) dummy.0) dummies ≡ true → list_any (λ dummy. dummy.0 == shard) dummies ≡ true → wants_dummy config (names (inputs_of x.tx)) (used_names x.tx) shard ≡ true
  wants [] all any = absurd (both_ways false refl any)
  wants (d ∷ ds) all any =
      let h = and_parts (wants_dummy config (names (inputs_of x.tx)) (used_names x.tx) d.0) _ all in
      elim (or_cases (d.0 == shard) _ any) [
        | inl here ↦ subst (λ (n : ℕ). wants_dummy config (names (inputs_of x.tx)) (used_names x.tx) n ≡ true) (eqb-true _ _ here) h.0
        | inr later ↦ wants ds h.1 later
      ]

  serves : (used : List (List ℕ)) → list_all (is_served config (names (inputs_of x.tx)) x.dummies) used ≡ true → is_among config shard used ≡ true → has_one ≡ true
  serves [] all any = absurd (both_ways false refl any)
  serves (name ∷ used) all any =
      let h = and_parts (is_served config (names (inputs_of x.tx)) x.dummies name) _ all in
      elim (or_cases (is_in config shard name) _ any) [
        | inl here ↦ subst (λ (n : ℕ). (is_among config n (names (inputs_of x.tx)) || list_any (λ dummy. dummy.0 == n) x.dummies) ≡ true) (eqb-true _ _ here) h.0
        | inr later ↦ serves used h.1 later
      ]

  one-concerns : IsWellFormed config x → has_one ≡ true → concerns config x shard ≡ true
  one-concerns fits e =
      elim (or_cases (is_among config shard (names (inputs_of x.tx))) _ e) [
        | inl input ↦ list_any-append (is_in config shard) (names (inputs_of x.tx)) _ ∙ or_left _ _ input
        | inr dummy ↦ (and_parts (concerns config x shard) _ (wants x.dummies (passed config x fits).wanted dummy)).0
      ]

  has_one-is : IsWellFormed config x → has_one ≡ concerns config x shard
  has_one-is fits =
      elim (cases_Bool (concerns config x shard)) [
        | inl there ↦ serves (used_names x.tx) (passed config x fits).served there ∙ sym there
        | inr not_there ↦ false_from_ne_true has_one (λ e. both_ways (concerns config x shard) not_there (one-concerns fits e)) ∙ sym not_there
      ]

  pub is_some-anchor_of : IsWellFormed config x → is_some (anchor_of config x shard) ≡ concerns config x shard
  is_some-anchor_of fits =
      is_some-anchor_among (find (is_in config shard) (names (inputs_of x.tx))) (dummy_in shard x.dummies)
      ∙ (λ i. is_some-find (is_in config shard) (names (inputs_of x.tx)) i || is_some-dummy_in shard x.dummies i)
      ∙ has_one-is fits

  pub is_anchored : (found : Option Key) → found ≡ anchor_of config x shard → IsWellFormed config x → IsNone found ↔ (concerns config x shard ≡ false)
  is_anchored found is fits =
      let same : is_some found ≡ concerns config x shard = ap is_some is ∙ is_some-anchor_of fits in
      (λ none. sym same ∙ none, λ not_there. same ∙ not_there)
