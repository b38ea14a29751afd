-- Numbers of names.
use Rattle.std.specs.Prelude.{◌≡◌, ℕ, ◌+◌, List, [], ◌∷◌, slice_get, Option, Some, None, if◌then◌else◌}
use Rattle.std.specs.Str.{bytes_eq}

-- the number of the first name that is this one, where names are numbered from here on
abbrev pub number_from : List ℕ → ℕ → List (List ℕ) → Option ℕ
number_from name number [] = None
number_from name number (n ∷ ns) = if bytes_eq n name then Some number else number_from name (number + 1) ns

abbrev pub number_of : List ℕ → List (List ℕ) → Option ℕ
number_of name names = number_from name 0 names

-- no two are equal
abbrev pub AreDistinct : List (List ℕ) → Type 0
AreDistinct names =
    (number : ℕ) (name : List ℕ) → slice_get names number ≡ Some name → number_of name names ≡ Some number
