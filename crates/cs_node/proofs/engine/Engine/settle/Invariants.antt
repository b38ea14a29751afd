use Rattle.std.proofs.Common.{List}
use Rattle.cs_tx_value.specs.declared.object.Object.{Object}
use Rattle.cs_check_rules.specs.Chain.{Log}
use Rattle.cs_order.specs.Deeds.{Member}
use Rattle.cs_node_rules.specs.Net.{Net}
use Rattle.cs_node_pool.specs.Deployed.{deployed_setup}
use Rattle.cs_node.specs.Steps.{Settling}
use Rattle.cs_node.specs.Cores.{IsSeated, KeepsView, site_at, core_view}
use Rattle.cs_node.proofs.engine.Engine.settle.Given as goal

abbrev pub invariant-loop : goal.invariant-loop
invariant-loop g l =
    (net : Net) (genesis : List Object) (log : Log) (h : Member g.row.O-Message.Denot) → IsSeated g.O.Order.stands l.initial.self log h
    → Settling (site_at g.O.Order.rules g.O.Carried.carrier net l.initial.self.sbac genesis (g.J.Judge.is_approved l.initial.self.judge)) (core_view log l.initial.self.sbac h) l.initial.draft l.draft
    (KeepsView g.O.Order.stands g.J.Judge.is_approved (deployed_setup l.initial.self.sbac.config genesis (g.J.Judge.is_approved l.initial.self.judge)) l.self) (g.O.Order.rest l.self.order)

abbrev pub decreases-loop : goal.decreases-loop
decreases-loop g l = g.O.Order.rest l.self.order
