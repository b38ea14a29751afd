use Rattle.std.proofs.Common.{◌≡◌, drop}
use Rattle.cs_waits.specs.Notes.{with_asked}
use Rattle.cs_waits.proofs.notes.add_asked.Given as goal

abbrev pub invariant-loop-out : goal.invariant-loop-out
invariant-loop-out l = with_asked (drop l.out-index l.outs) l.nodes ≡ with_asked l.outs l.initial.nodes
