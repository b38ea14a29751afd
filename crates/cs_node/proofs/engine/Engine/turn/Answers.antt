use Rattle.std.proofs.Common.{ℕ, ◌<◌, subst, arith}
use Rattle.cs_order.specs.declared.answers.Step.{Step}
use Rattle.cs_order.specs.Calls.{Advances, Lowers}
use Rattle.cs_node.proofs.Doing.{moved-here, chosen-here}
use Rattle.cs_node.proofs.engine.Engine.turn.Goals as goal

pub returns-in_ok-say_moved-in-Moved-clause-done : goal.returns-in_ok-say_moved-in-Moved-clause-done
returns-in_ok-say_moved-in-Moved-clause-done g c = λ net genesis log h seated.
    let C : Step → Type 0 = λ step. Advances g.O.Order.rules h step c.new-outgoing.result.items c.advance.new.out.items (g.O.Order.stands c.advance.new.self) in
    moved-here g.O.Order.stands g.J.Judge.is_approved g.O.Order.rules g.O.Carried.carrier net c.args.self.now genesis log h c.args.draft.now c.say_moved.new.draft seated c.advance.new.self c.new-outgoing.result.items c.advance.new.out.items c.open_slot-slot.result c.view-view.result
    c.new-outgoing.ensures.items (c.open_slot-slot.ensures.slot h seated.stood) (c.view-view.ensures h seated.stood) (subst C c.in-Moved.is (c.in_ok-proposed.ensures.call h seated.stood))
    (λ h' stood'. c.in_ok-say_moved-in-Moved.ensures net genesis h' seated.first stood')

pub returns-in_ok-execute-in-Chosen-clause-done : goal.returns-in_ok-execute-in-Chosen-clause-done
returns-in_ok-execute-in-Chosen-clause-done g c = λ net genesis log h seated.
    let approves = g.J.Judge.is_approved c.args.self.now.judge in
    let C : Step → Type 0 = λ step. Advances g.O.Order.rules h step c.new-outgoing.result.items c.advance.new.out.items (g.O.Order.stands c.advance.new.self) in
    chosen-here g.O.Order.stands g.J.Judge.is_approved g.O.Order.rules g.O.Carried.carrier net c.args.self.now genesis log h c.args.draft.now c.hand_out.new.draft seated c.advance.new.self c.cut_log.new.order c.new-outgoing.result.items c.advance.new.out.items c.execute.new.sbac c.execute.new.draft c.in-Chosen.proposed c.open_slot-slot.result
    c.new-outgoing.ensures.items (c.in_ok-hand_out-in-Chosen.ensures net genesis approves seated.first) (c.open_slot-slot.ensures.slot h seated.stood) (subst C c.in-Chosen.is (c.in_ok-proposed.ensures.call h seated.stood)) c.cut_log.ensures.cut
    (c.in_ok-execute-in-Chosen.ensures approves genesis log seated.kept_is)

pub returns-in_ok-execute-in-Chosen-clause-falls : goal.returns-in_ok-execute-in-Chosen-clause-falls
returns-in_ok-execute-in-Chosen-clause-falls g c = λ went.
    let before : ℕ = g.O.Order.rest c.args.self.now.order in
    let left : ℕ = g.O.Order.rest c.advance.new.self in
    let L : Step → Type 0 = λ step. Lowers before left step in
    let fell : left < before = subst L c.in-Chosen.is c.in_ok-proposed.ensures.falls in
    omega (arith, fell, c.cut_log.ensures.rest)
