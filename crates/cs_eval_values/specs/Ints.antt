-- Arithmetic of ints of 64 bits.
use Rattle.std.specs.Prelude.{ℕ, ℤ, pos, negsuc, ◌+ℤ◌, ◌-ℤ◌, ◌*ℤ◌, neg_ℤ, int_div, int_rem, int_lt, int_le, Bool, not, nat_lt, Option, None, Some, if◌then◌else◌}
use Rattle.std.specs.Ordering.{int_eq}
use Rattle.cs_lang.specs.declared.tree.Operator.{Operator}
use Rattle.cs_lang.specs.declared.tree.Operator.TheVariants as operator
use Rattle.cs_lang.specs.declared.tree.Comparison.{Comparison}
use Rattle.cs_lang.specs.declared.tree.Comparison.TheVariants as comparison
use Rattle.cs_eval_values.specs.declared.stop.Cause.TheVariants as cause
use Rattle.cs_eval_values.specs.Runs.{Run, gives, traps, or_trap, ◌>>=◌}

-- from -2^63 to 2^63 - 1
abbrev pub is_in_range : ℤ → Bool
is_in_range (pos n) = nat_lt n 9223372036854775808
is_in_range (negsuc n) = nat_lt n 9223372036854775808

abbrev pub in_range : ℤ → Option ℤ
in_range z = if is_in_range z then Some z else None

-- the int, or a trap where it is out of range
abbrev pub ranged : ℤ → ℕ → Run ℤ
ranged z place = or_trap cause.Range place (in_range z)

-- toward zero; -2^63 by -1 is out of range
abbrev pub divided : ℤ → ℤ → ℕ → Run ℤ
divided x y place = if int_eq y (pos 0) then traps cause.Divisor place else ranged (int_div x y) place

-- with the sign of the left side; it traps where the quotient does
abbrev pub remainder : ℤ → ℤ → ℕ → Run ℤ
remainder x y place = divided x y place >>= λ quotient. gives (int_rem x y)

abbrev pub computed : Operator → ℤ → ℤ → ℕ → Run ℤ
computed operator.Or x y place = traps cause.Misfit place
computed operator.And x y place = traps cause.Misfit place
computed operator.Plus x y place = ranged (x +ℤ y) place
computed operator.Minus x y place = ranged (x -ℤ y) place
computed operator.Times x y place = ranged (x *ℤ y) place
computed operator.Divide x y place = divided x y place
computed operator.Remainder x y place = remainder x y place

abbrev pub negated : ℤ → ℕ → Run ℤ
negated x place = ranged (neg_ℤ x) place

abbrev pub compared_ints : Comparison → ℤ → ℤ → Bool
compared_ints comparison.Equal x y = int_eq x y
compared_ints comparison.NotEqual x y = not (int_eq x y)
compared_ints comparison.Less x y = int_lt x y
compared_ints comparison.LessOrEqual x y = int_le x y
compared_ints comparison.Greater x y = int_lt y x
compared_ints comparison.GreaterOrEqual x y = int_le y x
