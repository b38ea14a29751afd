use Rattle.cs_audit_dump.proofs.Again.{again}
use Rattle.cs_audit_dump.proofs.law.printed_dumps_are_read.Goals as goal

pub returns : goal.returns
returns c = again
