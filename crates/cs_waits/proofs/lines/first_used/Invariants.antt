use Rattle.std.proofs.Common.{◌≡◌, drop}
use Rattle.cs_waits.specs.Lines.{first_used}
use Rattle.cs_waits.proofs.lines.first_used.Given as goal

abbrev pub invariant-loop-one : goal.invariant-loop-one
invariant-loop-one l = first_used l.f (drop l.one-index l.watched) ≡ first_used l.f l.watched
