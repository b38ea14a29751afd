use Rattle.std.proofs.Common.{◌-◌, Bool, Ok, ap, ◌∙◌}
use Rattle.cs_eval_values.specs.Runs.{Gave}
use Rattle.cs_eval_check.proofs.Turns.{one_chosen, other_chosen}
use Rattle.cs_eval_check.proofs.statements.choose.Goals as goal

pub returns-then-branch-clause-acts : goal.returns-then-branch-clause-acts
returns-then-branch-clause-acts g c =
    one_chosen c.args.scene.now (Ok c.enter_block.result) c.args.condition.now c.args.block.now c.args.other c.args.place (c.holds.new.steps - c.args.steps.now)
    c.args.running.now c.holds.new.running c.enter_block.new.running
    (c.in_ok-holds.ensures.decides.0 ∙ ap (λ (b : Bool). Gave b (c.holds.new.steps - c.args.steps.now)) c.if-branch.true)
    c.in_ok-holds.ensures.names c.in_ok-holds.ensures.tasks (c.enter_block.ensures.acts c.args.scene.now)

pub returns-in-Some-clause-acts : goal.returns-in-Some-clause-acts
returns-in-Some-clause-acts g c =
    other_chosen c.args.scene.now (Ok c.enter_block-in-Some.result) c.args.condition.now c.args.block.now c.in-Some.other c.args.other c.args.place (c.holds.new.steps - c.args.steps.now)
    c.args.running.now c.holds.new.running c.enter_block-in-Some.new.running c.in-Some.is
    (c.in_ok-holds.ensures.decides.0 ∙ ap (λ (b : Bool). Gave b (c.holds.new.steps - c.args.steps.now)) c.if-branch.false)
    c.in_ok-holds.ensures.names c.in_ok-holds.ensures.tasks (c.enter_block-in-Some.ensures.acts c.args.scene.now)
