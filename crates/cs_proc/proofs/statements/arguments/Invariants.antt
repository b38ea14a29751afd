use Rattle.std.proofs.Common.{◌≡◌, ◌-◌, ◌≤◌, [], drop}
use Rattle.cs_eval_values.specs.Runs.{spend, through}
use Rattle.cs_proc.specs.Acting.{argument_run, arguments_run}
use Rattle.cs_proc.proofs.statements.arguments.Given as goal

abbrev pub invariant-loop-expression : goal.invariant-loop-expression
invariant-loop-expression g l = record {
  counted : l.initial.steps ≤ l.steps;
  idle : l.running.frames.items ≡ [];
  doing : l.running.doing ≡ l.initial.running.doing;
  tasks : l.running.tasks.items ≡ l.initial.running.tasks.items;
  comes : arguments_run l.scene.contract.now l.scene.view.now l.expressions l.place l.initial.running.doing.names
      ≡ spend (l.steps - l.initial.steps)
      (through (argument_run l.scene.contract.now l.scene.view.now l.place l.initial.running.doing.names) l.values (drop l.expression-index l.expressions));
}
