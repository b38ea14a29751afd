-- Numbers among the words of a command.
use Rattle.std.specs.Prelude.{ℕ, nat_lt, nat_le, Bool, ◌&&◌, List, length, Option, Some, None, if◌then◌else◌}
use Rattle.std.specs.List.{list_all}
use Rattle.std.specs.Str.Parse.{digits_value}
use Rattle.cs_base.specs.Characters.{is_digit}

-- 1 to 18 digits
abbrev pub is_short_number : List ℕ → Bool
is_short_number word = list_all is_digit word && (nat_lt 0 (length word) && nat_le (length word) 18)

-- the number of which a word is the decimal text, with zeros in front or without
abbrev pub short_number : List ℕ → Option ℕ
short_number word = if is_short_number word then Some (digits_value 10 word) else None
