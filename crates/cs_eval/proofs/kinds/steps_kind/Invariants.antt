use Rattle.std.proofs.Common.{◌≡◌, List, drop, map}
use Rattle.cs_eval_values.specs.Namings.{Named}
use Rattle.cs_eval.specs.Meaning.{step_meant, steps_kind}
use Rattle.cs_eval.specs.Machine.{seen_from}
use Rattle.cs_eval.proofs.kinds.steps_kind.Given as goal

abbrev pub invariant-loop-step : goal.invariant-loop-step
invariant-loop-step l = (names : List Named) → steps_kind l.found (map (step_meant (seen_from l.scene names)) (drop l.step-index l.steps)) ≡ steps_kind l.fn.start (map (step_meant (seen_from l.scene names)) l.steps)
