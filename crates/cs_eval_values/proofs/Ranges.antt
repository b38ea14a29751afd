-- Ints that fit 64 bits.
use Rattle.std.proofs.Common.{◌≡◌, ℕ, ◌<◌, ◌≤◌, ℤ, pos, negsuc, Bool, true, false, cond, Option, Some, None, refl, sym, ap, ◌∙◌, arith}
use Rattle.std.specs.Prelude.{nat_lt, FitsSigned}
use Rattle.std.specs.Option.{SomeIff}
use Rattle.std.specs.Int.{w64}
use Rattle.std.proofs.lemmas.Bool.Decides.{nat_tests}
use Rattle.cs_eval_values.specs.Ints.{is_in_range, in_range}

-- what a checked operation answers
pub range_of : (r : Option ℤ) (z : ℤ) → SomeIff r (FitsSigned w64 z) z → r ≡ in_range z
range_of None (pos n) out = grind (arith, nat_tests)
range_of None (negsuc n) out = grind (arith, nat_tests)
range_of (Some x) (pos n) inside = grind (arith, nat_tests)
range_of (Some x) (negsuc n) inside = grind (arith, nat_tests)

pub ruleset ranges = (range_of)
