use Rattle.std.proofs.Common.{map}
use Rattle.cs_eval.specs.Blocks.{places_of_statement}
use Rattle.cs_eval.proofs.Actions.{one_at_least}
use Rattle.cs_eval_check.proofs.Rooms.{second_place, entered_room}
use Rattle.cs_eval_check.proofs.statements.enter.Goals as goal

pub push-requires-2 : goal.push-requires-2
push-requires-2 c =
    second_place c.args.running.now.tasks.items c.push.new.self.items c.args.names c.args.running.now.tasks.most c.push.new.self.most _
    c.push.ensures.items c.push.ensures.most (one_at_least (map places_of_statement c.args.statements.now)) c.requires.0

pub returns-clause-room : goal.returns-clause-room
returns-clause-room c =
    entered_room c.args.running.now.tasks.items c.push.new.self.items c.push-2.new.self.items c.args.statements c.args.names
    c.args.running.now.tasks.most c.push.new.self.most c.push-2.new.self.most c.args.running.now.frames.most
    c.push.ensures.items c.push-2.ensures.items c.push.ensures.most c.push-2.ensures.most c.requires.0 c.requires.1
