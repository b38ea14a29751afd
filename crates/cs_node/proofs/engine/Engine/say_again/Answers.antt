use Rattle.cs_node.proofs.Ticked.{again-here}
use Rattle.cs_node.proofs.engine.Engine.say_again.Goals as goal

pub returns : goal.returns
returns g c = λ net genesis log h seated.
    let approves = g.J.Judge.is_approved c.args.self.now.judge in
    again-here g.O.Order.stands g.J.Judge.is_approved g.O.Order.rules g.O.Carried.carrier net c.args.self.now genesis log h c.args.draft.now seated c.hand_out.new.draft c.ask_again.new.draft c.want.new.draft c.new-outgoing.result.items c.resend.new.out.items c.open_slot-slot.result
    c.new-outgoing.ensures.items (c.open_slot-slot.ensures.slot h seated.stood) (c.in_ok-resend.ensures.call h seated.stood) (c.in_ok-hand_out.ensures net genesis approves seated.first) (c.in_ok-ask_again.ensures genesis approves) c.in_ok-want.ensures
