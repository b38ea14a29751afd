use Rattle.std.proofs.Common.{◌≡◌, drop}
use Rattle.cs_trial.specs.Outcomes.{checks_say}
use Rattle.cs_trial.proofs.outcomes.checks_say.Given as goal

abbrev pub invariant-loop-trace : goal.invariant-loop-trace
invariant-loop-trace l = checks_say l.checked l.traces l.cost (drop l.trace-index l.traces) ≡ checks_say l.checked l.traces 0 l.traces
