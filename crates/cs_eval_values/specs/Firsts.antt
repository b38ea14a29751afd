-- Where names are first, by their numbers.
use denote.Ref.{Bor}
use Rattle.std.specs.Prelude.{◌≡◌, ◌==◌, ℕ, zero, suc, ◌-◌, List, [], ◌∷◌, slice_get, slice_index, slice_set, nat_lt, Option, Some, None, if◌then◌else◌}
use Rattle.cs_lang_names.specs.Numbering.{number_of}
use Rattle.cs_eval_values.specs.Namings.{Named, is_of_name}

abbrev pub numbers_of : Option (Bor (List (List ℕ))) → List (List ℕ)
numbers_of None = []
numbers_of (Some numbers) = numbers.now

abbrev pub one_later : ℕ → ℕ
one_later zero = 0
one_later (suc next) = suc (suc next)

-- the place of the first of this name and one more, or 0 where there is none
abbrev pub next_named : List ℕ → List Named → ℕ
next_named name [] = 0
next_named name (n ∷ ns) = if is_of_name name n then 1 else one_later (next_named name ns)

-- so they stand beside the numbers of the names
abbrev pub AreFirsts : List (List ℕ) → List ℕ → List Named → Type 0
AreFirsts numbers firsts names =
    (name : List ℕ) (number : ℕ) → number_of name numbers ≡ Some number
    → slice_get firsts number ≡ Some (next_named name names)

-- the place that this says, where there are so many names
abbrev pub first_place : ℕ → ℕ → ℕ
first_place next names = if next == 0 then names else next - 1

-- with a name more, which has this number: where nothing is kept beside it yet, this is
abbrev pub with_first : Option ℕ → ℕ → List ℕ → List ℕ
with_first None next firsts = firsts
with_first (Some number) next firsts = if slice_index firsts number == 0 then slice_set firsts number next else firsts

-- with only so many names left, and the one that is gone had this number
abbrev pub without_first : Option ℕ → ℕ → List ℕ → List ℕ
without_first None names firsts = firsts
without_first (Some number) names firsts =
    if nat_lt names (slice_index firsts number) then slice_set firsts number 0 else firsts
