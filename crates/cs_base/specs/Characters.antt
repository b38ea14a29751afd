-- Characters of a text, by their codes.
use Rattle.std.specs.Prelude.{ℕ, nat_le, Bool, ◌&&◌}

abbrev pub is_digit : ℕ → Bool
is_digit code = nat_le 48 code && nat_le code 57
