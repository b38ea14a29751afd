use Rattle.std.proofs.Common.{◌-◌, rules, arith, refl}
use Rattle.cs_proc.specs.declared.procedures_running.Running.{Running}
use Rattle.cs_proc.proofs.Turns.{statement_acts, statement_smaller}
use Rattle.cs_proc.proofs.Whole.{procedure_comes}
use Rattle.cs_proc.proofs.procedures.+procedures.Goals as goal

pub on_statements-returns-in_ok-push_growing-in-len1-up-clause-acts : goal.on_statements-returns-in_ok-push_growing-in-len1-up-clause-acts
on_statements-returns-in_ok-push_growing-in-len1-up-clause-acts g t c =
    let mid : Running = record { doing = c.args.running.now.doing; tasks = c.push_growing.new.self; frames = c.args.running.now.frames } in
    statement_acts c.args.scene.now c.args.above c.act.result c.args.statements.now c.statement-item.result _ (c.act.new.steps - c.spend.new.self) (c.act.new.steps - c.args.steps.now)
    c.args.running.now mid c.act.new.running
    (search rules) (search rules) refl (omega (arith, c.spend.ensures, c.act.ensures.counted)) c.in_ok-push_growing-in-len1-up.ensures.items refl c.act.ensures.acts

pub on_statements-returns-in_ok-push_growing-in-len1-up-clause-smaller : goal.on_statements-returns-in_ok-push_growing-in-len1-up-clause-smaller
on_statements-returns-in_ok-push_growing-in-len1-up-clause-smaller g t c =
    statement_smaller c.act.result c.args.statements.now c.statement-item.result _ c.args.running.now.tasks.items c.push_growing.new.self.items c.act.new.running.tasks.items
    (search rules) (search rules) refl c.in_ok-push_growing-in-len1-up.ensures.items c.act.ensures.smaller

pub run_procedure-returns-clause-comes : goal.run_procedure-returns-clause-comes
run_procedure-returns-clause-comes g t c =
    procedure_comes c.args.scene.now c.args.above c.args.method.now c.args.arguments c.args.progress
    c.close.result c.in-Some.opened _ c.enter_block.new.running.tasks.items c.enter_block.new.running.doing c.run.new.running.doing (c.run.new.steps - c.args.steps.now)
    (cc (c.in_ok-opened.ensures, c.in-Some.is, c.contract-id.ensures, c.as_slice-types.ensures)) c.in_ok-with_capacity.ensures.items
    (c.in_ok-enter_block.ensures.acts c.args.scene.now c.args.above).0 c.in_ok-run.ensures.does.0 (search rules)
