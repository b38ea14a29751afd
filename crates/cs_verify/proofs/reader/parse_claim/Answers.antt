use Rattle.cs_base.specs.declared.limits.TheConstants.{MOST_SCHEDULE}
use Rattle.cs_verify.proofs.Fitting.{given_fits}
use Rattle.cs_verify.proofs.reader.parse_claim.Goals as goal

pub returns-clause-fits : goal.returns-clause-fits
unfolding Rattle.cs_verify.specs.Text.claim_of
returns-clause-fits c = given_fits c.parse_text.result MOST_SCHEDULE c.args.text.now c.parse_text.ensures
