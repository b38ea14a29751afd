use Rattle.std.proofs.Common.{length}
use Rattle.cs_transact.proofs.fitting.+limit_past.Given as goal

abbrev pub decreases-limit_past : goal.decreases-limit_past
decreases-limit_past l = length l.traces.now
