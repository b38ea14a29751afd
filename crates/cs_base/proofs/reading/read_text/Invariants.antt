use Rattle.std.proofs.Common.{◌+◌, ◌-◌, ◌≤◌, length}
use Rattle.std.specs.Io.KnownBytes.{Consumes}
use Rattle.cs_base.proofs.reading.read_text.Given as goal

abbrev pub invariant-loop-piece : goal.invariant-loop-piece
invariant-loop-piece g l = (length l.text.items ≤ l.limit + 1)
    × Consumes (g.S.Source.left l.initial.input) (g.S.Source.left l.input) l.text.items
    × (g.S.Source.faults l.initial.input ≤ g.S.Source.faults l.input)

abbrev pub decreases-loop-piece : goal.decreases-loop-piece
decreases-loop-piece g l = l.limit + 1 - length l.text.items
