use Rattle.std.proofs.Common.{refl}
use Rattle.cs_verify.specs.Verdicts.{verdict_on}
use Rattle.cs_verify.proofs.Shown.{shows_exactly}
use Rattle.cs_cli.proofs.Told.{claim-tells}
use Rattle.cs_cli.proofs.claims.shown_claims_are_covered.Goals as goal

pub returns-clause-shown : goal.returns-clause-shown
returns-clause-shown c = λ claim. shows_exactly claim (verdict_on claim) refl

pub returns-clause-covered : goal.returns-clause-covered
returns-clause-covered c = λ claim fits. claim-tells claim fits
