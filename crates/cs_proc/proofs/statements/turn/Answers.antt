use Rattle.std.proofs.Common.{◌+◌, ◌-◌, rules, arith, refl, sym, ◌∙◌}
use Rattle.cs_eval_check.specs.declared.task.Loop.{Loop}
use Rattle.cs_proc.specs.declared.procedures_running.Running.{Running}
use Rattle.cs_proc.specs.Acting.{with_names}
use Rattle.cs_proc.proofs.Turns.{turn_acts, turn_smaller}
use Rattle.cs_proc.proofs.statements.turn.Goals as goal

pub returns-clause-acts : goal.returns-clause-acts
returns-clause-acts g c = λ above.
    let next : Loop = record c.args.looping { at = c.args.looping.at + 1 } in
    let mid : Running = record { doing = with_names c.args.running.now.doing c.add.new.self; tasks = c.push_growing.new.self; frames = c.args.running.now.frames } in
    turn_acts c.args.scene.now above c.enter.result c.args.looping next c.as_slice.result c.in-Some.held c.len-names.result (c.spend.new.self - c.args.steps.now)
    c.args.running.now mid c.enter.new.running
    (sym c.in-Some.is ∙ c.in_ok-held.ensures.found) refl (search rules) (search rules) (omega (arith, c.spend.ensures))
    (search rules) (search rules) c.requires c.enter.ensures.tasks c.enter.ensures.doing c.enter.ensures.frames c.enter.ensures.memory

pub returns-clause-smaller : goal.returns-clause-smaller
returns-clause-smaller g c =
    let next : Loop = record c.args.looping { at = c.args.looping.at + 1 } in
    turn_smaller c.enter.result c.args.looping next c.as_slice.result c.len-names.result c.args.running.now.tasks.items c.push_growing.new.self.items c.enter.new.running.tasks.items
    (search rules) refl (search rules) (search rules) c.enter.ensures.tasks
