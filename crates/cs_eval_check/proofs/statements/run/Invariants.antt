use Rattle.std.proofs.Common.{◌≡◌, ◌-◌, ◌≤◌, []}
use Rattle.cs_eval_values.specs.Runs.{spend}
use Rattle.cs_eval_check.specs.Tasks.{left_to}
use Rattle.cs_eval_check.specs.TaskWork.{tasks_work}
use Rattle.cs_eval_check.specs.TaskRoom.{TasksHaveRoom}
use Rattle.cs_eval_check.proofs.statements.run.Given as goal

abbrev pub invariant-loop-task : goal.invariant-loop-task
invariant-loop-task g l = record {
  counted : l.initial.steps ≤ l.steps;
  room : TasksHaveRoom 0 l.running;
  idle : l.running.frames.items ≡ [];
  comes : left_to l.scene l.initial.running.tasks.items l.initial.running.names ≡ spend (l.steps - l.initial.steps) (left_to l.scene l.running.tasks.items l.running.names);
}

abbrev pub decreases-loop-task : goal.decreases-loop-task
decreases-loop-task g l = tasks_work l.running.tasks.items
