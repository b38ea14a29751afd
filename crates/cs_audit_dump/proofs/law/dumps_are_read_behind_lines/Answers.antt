use Rattle.cs_audit_dump.proofs.Before.{read-behind-lines}
use Rattle.cs_audit_dump.proofs.law.dumps_are_read_behind_lines.Goals as goal

pub returns : goal.returns
returns c = read-behind-lines
