use Rattle.std.proofs.Common.{◌≡◌, drop}
use Rattle.cs_tx.specs.WellFormed.{first_failing, has_own_objects}
use Rattle.cs_tx.proofs.formation.foreign_trace.Given as goal

abbrev pub invariant-loop-number : goal.invariant-loop-number
invariant-loop-number l = first_failing has_own_objects l.number (drop l.number l.traces) ≡ first_failing has_own_objects 0 l.traces
