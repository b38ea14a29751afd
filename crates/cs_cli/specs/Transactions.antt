-- The words behind `transaction`.
use Rattle.std.specs.Prelude.{ℕ, List, [], ◌∷◌, codes, Option, Some, None, option_map, if◌then◌else◌}
use Rattle.std.specs.Str.{bytes_eq}
use Rattle.cs_io.specs.Numbers.{short_number}

-- `--number`, and behind it a number
abbrev pub number_behind : List ℕ → List (List ℕ) → Option ℕ
number_behind word (number ∷ []) = if bytes_eq word (codes "--number") then short_number number else None
number_behind word _ = None

-- the number of a session, where one stands there
abbrev pub numbered_called : List (List ℕ) → Option (Option ℕ)
numbered_called [] = Some None
numbered_called (word ∷ values) = option_map Some (number_behind word values)
