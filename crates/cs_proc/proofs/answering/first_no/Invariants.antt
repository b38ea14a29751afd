use Rattle.std.proofs.Common.{◌≡◌, drop}
use Rattle.cs_proc.specs.Answering.{first_no, first_no_from}
use Rattle.cs_proc.proofs.answering.first_no.Given as goal

abbrev pub invariant-loop-place : goal.invariant-loop-place
invariant-loop-place l = first_no_from l.book l.traces l.place (drop l.place l.traces) ≡ first_no l.book l.traces
