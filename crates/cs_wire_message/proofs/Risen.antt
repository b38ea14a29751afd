-- Digests that rise fit one by one.
use Rattle.std.proofs.Common.{ℕ, ◌<◌, ◌^◌, List, [], ◌∷◌, Option, Some, None, arith}
use Rattle.std.specs.List.{AllByRecursion}
use Rattle.cs_tx_value.specs.Object.{DigestFits}
use Rattle.cs_wire_message.specs.Message.{Rise, PreparedFits, PairFits}

pub each_fits : (view : ℕ) (last : Option (List ℕ)) (echoed : List (List ℕ × ℕ)) → view < 2 ^ 16 → Rise view last echoed → AllByRecursion (λ echo. DigestFits echo.0 × (echo.1 < 2 ^ 16)) echoed
each_fits view last [] small rise = tt
each_fits view last (echo ∷ echoed) small rise = ((rise.0.0.0, omega (arith, small, rise.0.1)), each_fits view (Some echo.0) echoed small rise.1)

pub pair_fits : (view : ℕ) (prepared : Option (ℕ × List ℕ)) → view < 2 ^ 16 → PreparedFits view prepared → PairFits prepared
pair_fits view None small fits = tt
pair_fits view (Some pair) small fits = (omega (arith, small, fits.0), fits.1)

pub ruleset written = (each_fits, pair_fits)
