use Rattle.std.proofs.Common.{◌≡◌, drop}
use Rattle.cs_tx.specs.WellFormed.{first_failing, has_earlier_deps}
use Rattle.cs_tx.proofs.formation.trace_with_late_dep.Given as goal

abbrev pub invariant-loop-number : goal.invariant-loop-number
invariant-loop-number l = first_failing has_earlier_deps l.number (drop l.number l.traces) ≡ first_failing has_earlier_deps 0 l.traces
