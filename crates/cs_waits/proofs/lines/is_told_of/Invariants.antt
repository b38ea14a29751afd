use Rattle.std.proofs.Common.{◌≡◌, drop}
use Rattle.cs_waits.specs.Lines.{is_told_of}
use Rattle.cs_waits.proofs.lines.is_told_of.Given as goal

abbrev pub invariant-loop-one : goal.invariant-loop-one
invariant-loop-one l = is_told_of l.f (drop l.one-index l.watched) l.name ≡ is_told_of l.f l.watched l.name
