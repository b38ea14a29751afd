use Rattle.std.proofs.Common.{◌∙◌, ap}
use Rattle.std.specs.Prelude.{is_some}
use Rattle.cs_node.proofs.Ticked.{waited-here}
use Rattle.cs_node.proofs.engine.Engine.wait.Goals as goal

pub returns : goal.returns
returns g c = λ net genesis log h seated.
    let approves = g.J.Judge.is_approved c.args.self.now.judge in
    waited-here g.O.Order.stands g.J.Judge.is_approved g.O.Order.rules g.O.Carried.carrier net c.args.self.now genesis log h c.args.draft.now seated c.say_moved.new.draft c.tick.new.self c.new-outgoing.result.items c.tick.new.out.items c.open_slot-slot.result c.view-view.result c.is_some-due.result
    c.new-outgoing.ensures.items (c.open_slot-slot.ensures.slot h seated.stood) (c.view-view.ensures h seated.stood) (c.is_some-due.ensures ∙ ap is_some (c.in_ok-due.ensures.entry genesis approves)) (c.in_ok-tick.ensures.call h seated.stood)
    (λ h' stood'. c.in_ok-say_moved.ensures net genesis h' seated.first stood')
