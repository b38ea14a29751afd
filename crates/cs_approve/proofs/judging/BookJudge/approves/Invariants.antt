use Rattle.std.proofs.Common.{◌≡◌, drop}
use Rattle.std.specs.List.{list_all}
use Rattle.cs_approve.specs.Approval.{is_trace_approved, is_approved}
use Rattle.cs_approve.proofs.judging.BookJudge.approves.Given as goal

abbrev pub invariant-loop-trace : goal.invariant-loop-trace
invariant-loop-trace l = list_all (is_trace_approved l.self l.tx.traces) (drop l.trace-index l.traces) ≡ is_approved l.self l.tx
