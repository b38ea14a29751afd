use Rattle.cs_audit_law.proofs.Unbroken.{logs_unbroken}
use Rattle.cs_audit_law.proofs.Backed.{logs_backed}
use Rattle.cs_audit_law.proofs.Listed.{history_unbroken}
use Rattle.cs_audit_law.proofs.steps_break_no_rule.Goals as goal

pub returns-clause-logs : goal.returns-clause-logs
returns-clause-logs c = logs_unbroken

pub returns-clause-support : goal.returns-clause-support
returns-clause-support c = λ setup within firsts are. logs_backed setup within firsts are

pub returns-clause-history : goal.returns-clause-history
returns-clause-history c = λ setup within firsts are. history_unbroken setup within firsts are
