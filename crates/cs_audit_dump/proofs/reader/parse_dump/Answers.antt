use Rattle.cs_audit_dump.specs.declared.limits.TheConstants.{MOST_DUMP}
use Rattle.cs_audit_dump.proofs.Whole.{given_formed}
use Rattle.cs_audit_dump.proofs.reader.parse_dump.Goals as goal

pub returns-clause-formed : goal.returns-clause-formed
unfolding Rattle.cs_audit_dump.specs.Text.dump_of
returns-clause-formed c = given_formed c.parse_text.result MOST_DUMP c.args.text.now c.parse_text.ensures
