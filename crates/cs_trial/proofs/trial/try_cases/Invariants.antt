use Rattle.std.proofs.Common.{◌+◌, drop}
use Rattle.cs_trial.specs.Trials.{none_counted}
use Rattle.cs_trial.proofs.Turns.{GoesOn}
use Rattle.cs_trial.proofs.trial.try_cases.Given as goal

abbrev pub invariant-loop-i : goal.invariant-loop-i
invariant-loop-i l = GoesOn l.checked l.text l.cases (l.initial.out.items, none_counted) (l.i + 1) (drop l.i l.cases) (l.out.items, l.counts)
