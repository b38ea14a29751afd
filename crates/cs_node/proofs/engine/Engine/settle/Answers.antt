use Rattle.cs_node.proofs.Settling.{settling-starts}
use Rattle.cs_node.proofs.Standing.{keeps-still, loop-goes, loop-ends}
use Rattle.cs_node.proofs.engine.Engine.settle.Goals as goal

pub loop-init : goal.loop-init
loop-init g c = λ net genesis log h seated. settling-starts _ _ _ _ _ (keeps-still g.O.Order.stands g.J.Judge.is_approved genesis c.args.self.now log h seated) (g.met.O.Order.bounded c.args.self.now.order)

pub loop-preserved : goal.loop-preserved
loop-preserved g c = λ net genesis log h seated. loop-goes g.O.Order.stands g.J.Judge.is_approved g.O.Order.rules g.O.Carried.carrier net _ _ _ _ _ _ _ _ _ (c.loop.invariant net genesis log h seated) (λ genesis' log' h'. c.in_ok-turn.ensures.done net genesis' log' h') _ c.if-branch.true c.in_ok-turn.ensures.falls

pub returns : goal.returns
returns g c = λ net genesis log h seated. loop-ends g.O.Order.stands g.J.Judge.is_approved g.O.Order.rules g.O.Carried.carrier net _ _ _ _ _ _ _ _ _ (c.loop.invariant net genesis log h seated) (λ genesis' log' h'. c.in_ok-turn.ensures.done net genesis' log' h') c.if-branch.false
