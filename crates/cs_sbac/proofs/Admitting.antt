-- Whether all actions of an entry are admitted, as one after the other is looked at.
use Rattle.std.proofs.Common.{◌≡◌, ℕ, suc, ◌+◌, ◌<◌, Bool, true, false, ◌&&◌, List, ◌∷◌, length, drop, get_or, ap, sym, subst, ◌∙◌, add-one, drop-cons}
use Rattle.std.specs.List.{AllByRecursion, list_all}
use Rattle.cs_tx_types.specs.declared.action.Action.{Action}

module _ (test : Action → Bool) where
  -- the action at hand, and those behind it
  first-step : (xs : List Action) (i : ℕ) (x : Action) → i < length xs → x ≡ get_or xs i x → list_all test (drop i xs) ≡ (test x && list_all test (drop (i + 1) xs))
  first-step xs i x lt is =
      ap (list_all test) (drop-cons xs i x lt)
      ∙ ap (λ y. test y && list_all test (drop (suc i) xs)) (sym is)
      ∙ ap (λ n. test x && list_all test (drop n xs)) (sym (add-one i))

  module _ (xs ys : List Action) (i : ℕ) (x : Action) (b : Bool) (same : ys ≡ xs) (lt : i < length ys) (is : x ≡ get_or ys i x) (tested : b ≡ test x) where
    stepped : list_all test (drop i xs) ≡ (b && list_all test (drop (i + 1) xs))
    stepped =
        let P : List Action → Type 0 = λ zs. list_all test (drop i zs) ≡ (test x && list_all test (drop (i + 1) zs)) in
        subst P same (first-step ys i x lt is) ∙ ap (λ t. t && list_all test (drop (i + 1) xs)) (sym tested)

    pub all-passed : b ≡ true → list_all test (drop i xs) ≡ list_all test (drop (i + 1) xs)
    all-passed passed = stepped ∙ ap (λ t. t && list_all test (drop (i + 1) xs)) passed

    pub not-all : b ≡ false → list_all test (drop i xs) ≡ false
    not-all failed = stepped ∙ ap (λ t. t && list_all test (drop (i + 1) xs)) failed

-- what holds of all from an action on holds of it, and of those behind it
pub from-here : (Holds : Action → Type 0) (xs ys : List Action) (i : ℕ) (x : Action) → ys ≡ xs → i < length ys → x ≡ get_or ys i x → AllByRecursion Holds (drop i xs)
    → Holds x × AllByRecursion Holds (drop (i + 1) xs)
from-here Holds xs ys i x same lt is all =
    let P : List Action → Type 0 = λ zs. AllByRecursion Holds (drop i zs) in
    let Q : List Action → Type 0 = λ zs. AllByRecursion Holds (drop (i + 1) zs) in
    let here : AllByRecursion Holds (get_or ys i x ∷ drop (suc i) ys) = subst (λ (zs : List Action). AllByRecursion Holds zs) (drop-cons ys i x lt) (subst P (sym same) all) in
    let rest : AllByRecursion Holds (drop (i + 1) ys) = subst (λ (n : ℕ). AllByRecursion Holds (drop n ys)) (sym (add-one i)) here.1 in
    (subst Holds (sym is) here.0, subst Q same rest)
