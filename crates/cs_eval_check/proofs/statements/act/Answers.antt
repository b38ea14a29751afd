use Rattle.std.proofs.Common.{◌-◌, List, Ok, sym, ap, ◌∙◌, arith}
use Rattle.cs_eval.proofs.Actions.{places_if_else}
use Rattle.cs_eval_values.specs.Runs.{Run}
use Rattle.cs_eval_values.specs.Namings.{Named}
use Rattle.cs_eval.specs.declared.scene.Scene.{Scene}
use Rattle.cs_eval.proofs.RunLaws.{spend_none}
use Rattle.cs_eval_law.specs.Acting.{for_to_run, block_run}
use Rattle.cs_eval_check.specs.Tasks.{then_left}
use Rattle.cs_eval_check.proofs.Actions.{act_for_to}
use Rattle.cs_eval_check.proofs.Turns.{acts_spent}
use Rattle.cs_eval_check.proofs.statements.act.Goals as goal

pub choose-requires-in-IfElse-clause-room : goal.choose-requires-in-IfElse-clause-room
choose-requires-in-IfElse-clause-room g c = (
  omega (arith, c.requires.room.0, places_if_else c.args.action.now c.in-IfElse.condition c.in-IfElse.block c.in-IfElse.other c.in-IfElse.is),
  c.requires.room.1,
)

pub returns-in-ForTo-clause-acts : goal.returns-in-ForTo-clause-acts
returns-in-ForTo-clause-acts g c =
    let scene : Scene = c.args.scene.now in
    let run : Run (List Named) = for_to_run scene.contract.now scene.view.now c.in-ForTo.name c.in-ForTo.count (block_run scene.contract.now scene.view.now c.in-ForTo.each) c.args.running.now.names in
    acts_spent scene (Ok c.for_to.result) 0 0 (c.args.steps.now - c.args.steps.now) _ (then_left scene c.args.running.now.tasks.items run) c.for_to.new.running (omega arith)
    (ap (then_left scene c.args.running.now.tasks.items) (act_for_to scene.contract.now scene.view.now c.args.action.now c.in-ForTo.name c.in-ForTo.count c.in-ForTo.each c.args.place c.args.running.now.names c.in-ForTo.is)
    ∙ sym (spend_none (then_left scene c.args.running.now.tasks.items run)))
    (c.for_to.ensures.acts scene)
