-- Objects gone over by their places.
use Rattle.std.proofs.Common.{◌≡◌, ℕ, ◌+◌, ◌<◌, ◌≤◌, Bool, true, false, List, [], ◌∷◌, ◌++◌, length, get_or, take, drop, Option, Some, None, refl, sym, ap, ◌∙◌, arith, inl, inr}
use Rattle.std.specs.Prelude.{◌&&◌, slice_get}
use Rattle.std.specs.List.{list_all}
use Rattle.std.proofs.lemmas.List.{drop_all, take_more}
use Rattle.std.proofs.lemmas.Option.{slice_get_within, get_or_from_slice_get, slice_get_cases}
use Rattle.cs_tx_value.specs.declared.object.Object.{Object}
use Rattle.cs_types_kinds.proofs.Loops.{opened}

pub opened_at : {X : Type 0} (xs : List X) (i : ℕ) (x : X) → Some x ≡ slice_get xs i → drop i xs ≡ x ∷ drop (i + 1) xs
opened_at xs i x is = opened xs i x (slice_get_within xs i x (sym is)) (sym (get_or_from_slice_get xs i x x (sym is)))

none_some : {X : Type 0} (x : X) → None ≡ Some x → ⊥
none_some x is = cc

past : {X : Type 0} (xs : List X) (i : ℕ) → None ≡ slice_get xs i → length xs ≤ i
past xs i is = elim ((slice_get_cases xs i).1) [ inl w ↦ absurd (none_some w.0 (is ∙ w.2)) | inr w ↦ w.0 ]

module _ {X : Type 0} (test : X → Bool) where
  all_next : (xs : List X) (i : ℕ) (x : X) (t : Bool) → Some x ≡ slice_get xs i → list_all test (drop i xs) ≡ t
      → (test x && list_all test (drop (i + 1) xs)) ≡ t
  all_next xs i x t is h = sym (ap (list_all test) (opened_at xs i x is)) ∙ h

  pub all_failed : (xs : List X) (i : ℕ) (x : X) (t : Bool) → Some x ≡ slice_get xs i → test x ≡ false → list_all test (drop i xs) ≡ t → false ≡ t
  all_failed xs i x t is fails h =
      sym (ap (λ (b : Bool). b && list_all test (drop (i + 1) xs)) fails) ∙ all_next xs i x t is h

  pub all_step : (xs : List X) (i : ℕ) (x : X) (t : Bool) → Some x ≡ slice_get xs i → test x ≡ true → list_all test (drop i xs) ≡ t
      → list_all test (drop (i + 1) xs) ≡ t
  all_step xs i x t is passes h =
      sym (ap (λ (b : Bool). b && list_all test (drop (i + 1) xs)) passes) ∙ all_next xs i x t is h

  pub all_past : (xs : List X) (i : ℕ) (t : Bool) → None ≡ slice_get xs i → list_all test (drop i xs) ≡ t → list_all test (drop (i + 1) xs) ≡ t
  all_past xs i t is h =
      let le : length xs ≤ i = past xs i is in
      let more : length xs ≤ i + 1 = omega arith in
      ap (list_all test) (drop_all (i + 1) xs more) ∙ sym (ap (list_all test) (drop_all i xs le)) ∙ h

-- ---- objects that are kept

pub kept_more : (os : List Object) (i : ℕ) (o : Object) (before after : List Object) → Some o ≡ slice_get os i → before ≡ take i os
    → after ≡ before ++ o ∷ [] → after ≡ take (i + 1) os
kept_more os i o before after is so_far more =
    let lt : i < length os = slice_get_within os i o (sym is) in
    let at : get_or os i o ≡ o = get_or_from_slice_get os i o o (sym is) in
    more ∙ ap (λ (t : List Object). t ++ o ∷ []) so_far ∙ ap (λ (x : Object). take i os ++ x ∷ []) (sym at) ∙ sym (take_more os i o lt)

pub kept_all : (os : List Object) (i : ℕ) → i < length os → None ≡ slice_get os i → ⊥
kept_all os i lt none = let le : length os ≤ i = past os i none in omega (arith, lt)
