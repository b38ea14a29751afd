use Rattle.std.proofs.Common.{◌≡◌, take, length}
use Rattle.cs_eval_values.proofs.names.Names.leave.Given as goal

abbrev pub invariant-loop-self : goal.invariant-loop-self
invariant-loop-self l = take l.names l.self ≡ take l.names l.initial.self

abbrev pub decreases-loop-self : goal.decreases-loop-self
decreases-loop-self l = length l.self
