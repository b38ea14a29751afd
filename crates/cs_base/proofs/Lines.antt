-- A text cut at its line ends.
use Rattle.std.specs.Prelude.{◌≡◌, ℕ, ◌+◌, ◌<◌, ◌≤◌, List, [], ◌∷◌, length, take, drop, Bool, nat_lt, Some, None, position}
use Rattle.std.specs.List.{slice_split, position_or_len, after_first}
use Rattle.std.proofs.Common.{sym, ◌∙◌, refl, arith, inl, inr}
use Rattle.std.proofs.lemmas.Bool.{cases_Bool}
use Rattle.std.proofs.lemmas.Bool.Decides.{nat_tests}
use Rattle.std.proofs.lemmas.Option.{cond_some, none-some}
use Rattle.std.proofs.lemmas.List.Splits.{slice_split_first, slice_split-cons_no}
use Rattle.std.proofs.Math.ListN.{drop_of_length-le}
use borrow.Author.Tests.{ltb-true}

pub found_within : {X : Type 0} (p : X → Bool) (xs : List X) (at : ℕ) → position p xs ≡ Some at → (at < length xs) × (position_or_len p xs ≡ at)
found_within p xs at found =
    let (test, is) = cond_some (nat_lt (position_or_len p xs) (length xs)) (position_or_len p xs) at found in
    (rw (← is) (ltb-true _ _ test), is)

-- the first part ends at the first place found
pub split_found : (p : ℕ → Bool) (xs : List ℕ) (at : ℕ) → position p xs ≡ Some at → slice_split p xs ≡ take at xs ∷ slice_split p (drop (at + 1) xs)
split_found p xs at found =
    let (within, is) = found_within p xs at found in
    rw (← is) (slice_split_first p xs 0 (rw is within))

split_end : {X : Type 0} (p : X → Bool) (xs : List X) → (position_or_len p xs < length xs → ⊥) → slice_split p xs ≡ xs ∷ []
split_end p [] none = refl
split_end p (x ∷ xs) none =
    elim (cases_Bool (p x)) [
      | inl passes ↦ absurd (none (rw passes (omega arith)))
      | inr fails ↦ slice_split-cons_no p x xs fails ∙ rw (split_end p xs (λ within. none (rw fails (omega arith)))) refl
    ]

-- with no place found there is one part
pub past_end : {X : Type 0} (p : X → Bool) (xs : List X) → position p xs ≡ None → length xs ≤ position_or_len p xs
past_end p xs none =
    elim (cases_Bool (nat_lt (position_or_len p xs) (length xs))) [
      | inl within ↦ absurd (none-some (position_or_len p xs) (sym none ∙ rw within refl))
      | inr beyond ↦ grind (arith, nat_tests)
    ]

pub split_none : {X : Type 0} (p : X → Bool) (xs : List X) → position p xs ≡ None → slice_split p xs ≡ xs ∷ []
split_none p xs none = let beyond = past_end p xs none in split_end p xs (λ within. omega arith)

-- and nothing stands behind it
pub after_first-none : {X : Type 0} (p : X → Bool) (xs : List X) → position p xs ≡ None → after_first p xs ≡ []
after_first-none p xs none = let beyond = past_end p xs none in drop_of_length-le xs (omega arith)
