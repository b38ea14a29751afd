use Rattle.std.proofs.Common.{◌≡◌, ◌+◌, length}
use Rattle.std.specs.List.{enumerate_from}
use Rattle.cs_gen.proofs.schedule.numbered.Given as goal

abbrev pub invariant-loop-event : goal.invariant-loop-event
invariant-loop-event l = (l.line ≡ l.first + length l.yielded) × (l.lines.items ≡ enumerate_from l.first l.yielded)
