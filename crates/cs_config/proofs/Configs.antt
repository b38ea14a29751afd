-- Numbers that are each in their range are those of a configuration.
use Rattle.std.specs.Prelude.{◌≡◌, ℕ, ◌≤◌, Ok, None}
use Rattle.std.proofs.Common.{arith, ap}
use Rattle.std.proofs.lemmas.Bool.Decides.{nat_tests}
use Rattle.cs_base.specs.declared.limits.TheConstants.{MOST_SHARDS, MOST_LIARS, MOST_DUMMIES}
use Rattle.cs_base.specs.Config.{first_out, config_of, unless_out, configured}

none_out : (shards f dummies : ℕ) → 1 ≤ shards → shards ≤ MOST_SHARDS → f ≤ MOST_LIARS → dummies ≤ MOST_DUMMIES → first_out shards f dummies ≡ None
none_out shards f dummies some few liars most = grind (arith, nat_tests)

pub configured_within : (shards f dummies : ℕ) → 1 ≤ shards → shards ≤ MOST_SHARDS → f ≤ MOST_LIARS → dummies ≤ MOST_DUMMIES → configured shards f dummies ≡ Ok (config_of shards f dummies)
configured_within shards f dummies some few liars most = ap (unless_out (config_of shards f dummies)) (none_out shards f dummies some few liars most)
