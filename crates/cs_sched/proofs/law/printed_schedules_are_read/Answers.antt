use Rattle.cs_sched.proofs.Again.{again}
use Rattle.cs_sched.proofs.law.printed_schedules_are_read.Goals as goal

pub returns : goal.returns
returns c = again
