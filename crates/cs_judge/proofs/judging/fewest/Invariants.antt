use Rattle.std.proofs.Common.{◌≡◌, take}
use Rattle.cs_judge.specs.Faults.{fewest}
use Rattle.cs_judge.proofs.judging.fewest.Given as goal

abbrev pub invariant-loop-slot : goal.invariant-loop-slot
invariant-loop-slot l = l.count ≡ fewest (take l.slot-index l.slots)
