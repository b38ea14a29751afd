use Rattle.std.proofs.Common.{length}
use Rattle.cs_transact.proofs.fitting.+first_past.Given as goal

abbrev pub decreases-first_past : goal.decreases-first_past
decreases-first_past l = length l.fields.now
