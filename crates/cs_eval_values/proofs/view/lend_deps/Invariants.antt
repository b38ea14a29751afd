use Rattle.std.proofs.Common.{◌≡◌, take, map}
use Rattle.cs_eval_values.specs.Lending.{dep_of}
use Rattle.cs_eval_values.proofs.view.lend_deps.Given as goal

abbrev pub invariant-loop-dep : goal.invariant-loop-dep
invariant-loop-dep l = map dep_of l.lent.items ≡ take l.dep-index l.deps
