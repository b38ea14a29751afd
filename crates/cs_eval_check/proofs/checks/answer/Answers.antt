use Rattle.std.proofs.Common.{◌-◌, rules, arith, sym}
use Rattle.cs_eval_values.specs.Runs.{Gave, Answered, Trapped}
use Rattle.cs_eval_check.proofs.Said.{yes_is, spent_is}
use Rattle.cs_eval_check.proofs.Rooms.{begun_place, begun_room}
use Rattle.cs_eval_check.proofs.checks.answer.Goals as goal

pub returns-in-Err-Answer-clause-says : goal.returns-in-Err-Answer-clause-says
returns-in-Err-Answer-clause-says g c =
    sym (yes_is c.args.scene.now c.args.method.now.check c.as_slice-statements.result c.push.new.self.items c.args.names
    (Answered c.in-Err-Answer.answer (c.run.new.steps - c.args.steps.now)) (search rules) (search rules) (rw c.in-Err-Answer.field-0-is at c.in-Err-Answer.ensures.ran))

pub returns-in-Err-Answer-clause-counts : goal.returns-in-Err-Answer-clause-counts
returns-in-Err-Answer-clause-counts g c =
    omega (
      arith,
      c.in-Err-Answer.ensures.counted,
      spent_is c.args.scene.now c.args.method.now.check c.as_slice-statements.result c.push.new.self.items c.args.names
          (Answered c.in-Err-Answer.answer (c.run.new.steps - c.args.steps.now)) (search rules) (search rules) (rw c.in-Err-Answer.field-0-is at c.in-Err-Answer.ensures.ran),
    )

pub returns-in-Err-Trap-clause-says : goal.returns-in-Err-Trap-clause-says
returns-in-Err-Trap-clause-says g c =
    sym (yes_is c.args.scene.now c.args.method.now.check c.as_slice-statements.result c.push.new.self.items c.args.names
    (Trapped c.in-Err-Trap.field-0-0 c.in-Err-Trap.field-0-1 (c.run.new.steps - c.args.steps.now)) (search rules) (search rules) (rw c.in-Err-Trap.field-0-is at c.in-Err-Trap.ensures.ran))

pub returns-in-Err-Trap-clause-counts : goal.returns-in-Err-Trap-clause-counts
returns-in-Err-Trap-clause-counts g c =
    omega (
      arith,
      c.in-Err-Trap.ensures.counted,
      spent_is c.args.scene.now c.args.method.now.check c.as_slice-statements.result c.push.new.self.items c.args.names
          (Trapped c.in-Err-Trap.field-0-0 c.in-Err-Trap.field-0-1 (c.run.new.steps - c.args.steps.now)) (search rules) (search rules) (rw c.in-Err-Trap.field-0-is at c.in-Err-Trap.ensures.ran),
    )

pub returns-clause-says : goal.returns-clause-says
returns-clause-says g c =
    sym (yes_is c.args.scene.now c.args.method.now.check c.as_slice-statements.result c.push.new.self.items c.args.names
    (Gave c.run.new.running.names (c.run.new.steps - c.args.steps.now)) (search rules) (search rules) c.in-Ok.ensures.ran)

pub returns-clause-counts : goal.returns-clause-counts
returns-clause-counts g c =
    omega (
      arith,
      c.in-Ok.ensures.counted,
      spent_is c.args.scene.now c.args.method.now.check c.as_slice-statements.result c.push.new.self.items c.args.names
          (Gave c.run.new.running.names (c.run.new.steps - c.args.steps.now)) (search rules) (search rules) c.in-Ok.ensures.ran,
    )

pub push-requires : goal.push-requires
push-requires g c =
    begun_place c.args.method.now.check c.in_ok-with_capacity.field-0.items c.in_ok-most.most c.in_ok-with_capacity.field-0.most
    c.in_ok-with_capacity.ensures.items c.in_ok-most.ensures c.in_ok-with_capacity.ensures.most

pub run-requires-clause-room : goal.run-requires-clause-room
run-requires-clause-room g c =
    begun_room c.args.method.now.check c.as_slice-statements.result c.in_ok-with_capacity.field-0.items c.push.new.self.items
    c.in_ok-most.most c.in_ok-with_capacity.field-0.most c.push.new.self.most c.in_ok-with_capacity-2.field-0.most
    (search rules) c.in_ok-with_capacity.ensures.items c.push.ensures.items c.in_ok-most.ensures
    c.in_ok-with_capacity.ensures.most c.push.ensures.most c.in_ok-with_capacity-2.ensures.most
