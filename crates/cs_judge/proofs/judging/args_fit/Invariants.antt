use Rattle.std.proofs.Common.{◌≡◌, drop}
use Rattle.cs_eval_values.specs.Filling.{values_fit}
use Rattle.cs_judge.proofs.judging.args_fit.Given as goal

abbrev pub invariant-loop-i : goal.invariant-loop-i
invariant-loop-i l = values_fit (drop l.i l.fields) (drop l.i l.args) ≡ values_fit l.fields l.args
