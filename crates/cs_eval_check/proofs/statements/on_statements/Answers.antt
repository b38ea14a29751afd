use Rattle.std.proofs.Common.{◌-◌, rules, arith, refl}
use Rattle.cs_eval_check.specs.declared.running.Running.{Running}
use Rattle.cs_eval_check.proofs.Turns.{statement_acts, statement_smaller}
use Rattle.cs_eval_check.proofs.Rooms.{next_room}
use Rattle.cs_eval_check.proofs.statements.on_statements.Goals as goal

pub returns-in-len1-up-clause-acts : goal.returns-in-len1-up-clause-acts
returns-in-len1-up-clause-acts g c =
    let mid : Running = record { names = c.args.running.now.names; tasks = c.push.new.self; frames = c.args.running.now.frames } in
    statement_acts c.args.scene.now c.act.result c.args.statements.now c.statement-item.result _ (c.act.new.steps - c.spend.new.self) (c.act.new.steps - c.args.steps.now)
    c.args.running.now mid c.act.new.running
    (search rules) (search rules) refl (omega (arith, c.spend.ensures, c.act.ensures.counted)) c.push.ensures.items refl c.act.ensures.acts

pub returns-in-len1-up-clause-smaller : goal.returns-in-len1-up-clause-smaller
returns-in-len1-up-clause-smaller g c =
    statement_smaller c.act.result c.args.statements.now c.statement-item.result _ c.args.running.now.tasks.items c.push.new.self.items c.act.new.running.tasks.items
    (search rules) (search rules) refl c.push.ensures.items c.act.ensures.smaller

pub act-requires-clause-room : goal.act-requires-clause-room
act-requires-clause-room g c =
    next_room c.args.statements.now c.statement-item.result _ c.args.running.now.tasks.items c.push.new.self.items
    c.args.running.now.tasks.most c.push.new.self.most c.args.running.now.frames.most
    (search rules) (search rules) refl c.push.ensures.items c.push.ensures.most c.requires.room.0 c.requires.room.1
