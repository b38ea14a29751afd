use Rattle.std.proofs.Common.{◌≡◌, ◌-◌, ◌≤◌}
use Rattle.cs_eval_values.specs.Runs.{spend}
use Rattle.cs_eval.specs.Meaning.{meaning}
use Rattle.cs_eval.specs.Machine.{seen_from, continued}
use Rattle.cs_eval.specs.Work.{left_work}
use Rattle.cs_eval.specs.Room.{HasRoom}
use Rattle.cs_eval.proofs.expressions.evaluate.Given as goal

abbrev pub invariant-loop-next : goal.invariant-loop-next
invariant-loop-next g l = record {
  counted : l.initial.steps ≤ l.steps;
  comes : meaning (seen_from l.scene l.names) l.fn.expr ≡ spend (l.steps - l.initial.steps) (continued (seen_from l.scene l.names) l.next l.frames.items);
  room : HasRoom l.next l.frames;
  most : l.frames.most ≡ l.initial.frames.most;
}

abbrev pub decreases-loop-next : goal.decreases-loop-next
decreases-loop-next g l = left_work l.next l.frames.items
