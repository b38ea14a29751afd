use Rattle.std.proofs.Common.{◌≡◌, ◌+◌, ◌-◌, ◌*◌, ◌≤◌, []}
use Rattle.cs_eval_check.specs.TaskWork.{tasks_work}
use Rattle.cs_proc_parts.specs.Courses.{spending}
use Rattle.cs_proc.specs.Tasks.{rest_of_procedure}
use Rattle.cs_proc.proofs.procedures.+procedures.Given as goal

abbrev pub decreases-run_procedure : goal.decreases-run_procedure
decreases-run_procedure g l = 6 * l.above + 5

abbrev pub decreases-run : goal.decreases-run
decreases-run g l = 6 * l.above + 4

abbrev pub decreases-go_on : goal.decreases-go_on
decreases-go_on g l = 6 * l.above + 3

abbrev pub decreases-on_statements : goal.decreases-on_statements
decreases-on_statements g l = 6 * l.above + 2

abbrev pub decreases-act : goal.decreases-act
decreases-act g l = 6 * l.above + 1

abbrev pub decreases-call : goal.decreases-call
decreases-call g l = 6 * l.above + 0

abbrev pub invariant-run-loop-task : goal.invariant-run-loop-task
invariant-run-loop-task g l = record {
  counted : l.initial.steps ≤ l.steps;
  idle : l.running.frames.items ≡ [];
  comes : rest_of_procedure l.scene l.above l.initial.running.tasks.items l.initial.running.doing ≡ spending (l.steps - l.initial.steps) (rest_of_procedure l.scene l.above l.running.tasks.items l.running.doing);
}

abbrev pub decreases-run-loop-task : goal.decreases-run-loop-task
decreases-run-loop-task g l = tasks_work l.running.tasks.items
