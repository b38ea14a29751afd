use Rattle.std.proofs.Common.{◌≡◌, Ok, sym, ap, subst, ◌∙◌}
use Rattle.cs_base.specs.declared.node_id.NodeId.{NodeId}
use Rattle.cs_wire.specs.Opened.{Opened}
use Rattle.cs_node_rules.specs.Trail.{opened_marks}
use Rattle.cs_node_pool.specs.Deployed.{deployed_setup}
use Rattle.cs_node.specs.Steps.{MakesMarks}
use Rattle.cs_node.specs.Cores.{KeepsView, site_at, core_view}
use Rattle.cs_node.proofs.engine.Engine.hear_datagram.Goals as goal

pub returns-in_ok-hear-in-Ok : goal.returns-in_ok-hear-in-Ok
returns-in_ok-hear-in-Ok g c = λ same net genesis log h seated speaks.
    let core = c.args.self.now in
    let bytes = c.args.bytes.now in
    let approves = g.J.Judge.is_approved core.judge in
    let site = site_at g.O.Order.rules g.O.Carried.carrier net core.sbac genesis approves in
    let v = core_view log core.sbac h in
    let said : Opened = Ok (c.in-Ok.sender, c.in-Ok.message) in
    let opens : net.opened core.sbac.me bytes ≡ said = ap (λ (n : NodeId). net.opened n bytes) (sym same) ∙ sym (speaks.opens bytes) ∙ sym c.in_ok-sender.ensures.said ∙ c.in-Ok.is in
    let P : Opened → Type 0 = λ o. MakesMarks site (opened_marks site v o) v c.args.draft.now c.hear.new.draft (KeepsView g.O.Order.stands g.J.Judge.is_approved (deployed_setup core.sbac.config genesis approves) c.hear.new.self) in
    subst P (sym opens) (c.in_ok-hear-in-Ok.ensures net genesis log h seated)
