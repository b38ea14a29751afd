-- The number and the size of a simulation, as words.
use Rattle.std.specs.Prelude.{ℕ, nat_lt, nat_le, ◌&&◌, List, [], ◌∷◌, Option, Some, None, if◌then◌else◌}
use Rattle.cs_io.specs.Numbers.{short_number}
use Rattle.cs_gen.specs.declared.limits.TheConstants.{MOST_SIZE}

-- a number that is the size of a simulation
abbrev pub size_in : Option ℕ → Option ℕ
size_in None = None
size_in (Some size) = if nat_lt 0 size && nat_le size MOST_SIZE then Some size else None

-- two of them
abbrev pub both_numbers : Option ℕ → Option ℕ → Option (ℕ × ℕ)
both_numbers None size = None
both_numbers (Some number) None = None
both_numbers (Some number) (Some size) = Some (number, size)

-- they are all words behind the command
abbrev pub simulated : List (List ℕ) → Option (ℕ × ℕ)
simulated [] = None
simulated (number ∷ []) = None
simulated (number ∷ size ∷ []) = both_numbers (short_number number) (size_in (short_number size))
simulated (number ∷ size ∷ other ∷ options) = None
