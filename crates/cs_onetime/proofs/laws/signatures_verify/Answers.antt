use Rattle.cs_onetime.proofs.Signs.{signature-verifies}
use Rattle.cs_onetime.proofs.laws.signatures_verify.Goals as goal

pub returns : goal.returns
returns c = signature-verifies
