use Rattle.std.proofs.Common.{◌≡◌, ◌≤◌}
use Rattle.cs_proc.specs.Tasks.{calls_at}
use Rattle.cs_proc.proofs.procedures.find.Given as goal

abbrev pub invariant-loop-left : goal.invariant-loop-left
invariant-loop-left l = record {
  low : l.left ≤ l.above;
  same : calls_at l.scene l.above l.name ≡ calls_at l.scene l.left l.name;
}

abbrev pub decreases-loop-left : goal.decreases-loop-left
decreases-loop-left l = l.left
