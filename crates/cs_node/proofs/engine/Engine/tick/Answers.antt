use Rattle.cs_node.proofs.Ticked.{ticked-here}
use Rattle.cs_node.proofs.engine.Engine.tick.Goals as goal

pub returns : goal.returns
returns g c = λ net genesis log h seated.
    ticked-here g.O.Order.stands g.J.Judge.is_approved g.O.Order.rules g.O.Carried.carrier net c.args.self.now c.wait.new.self genesis log h c.args.draft.now c.say_again.new.draft c.wait.new.draft
    (c.in_ok-say_again.ensures net genesis log h seated) (λ genesis' log' h' seated'. c.in_ok-wait.ensures net genesis' log' h' seated')
