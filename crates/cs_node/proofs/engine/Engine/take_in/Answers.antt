use Rattle.std.proofs.Common.{OnOk, sym, subst}
use Rattle.cs_wire.specs.declared.input.Input.{Input}
use Rattle.cs_node_rules.specs.Trail.{input_marks}
use Rattle.cs_node_pool.specs.Deployed.{deployed_setup}
use Rattle.cs_node.specs.Speaking.{input_of}
use Rattle.cs_node.specs.Steps.{MakesMarks}
use Rattle.cs_node.specs.Cores.{KeepsView, site_at, core_view}
use Rattle.cs_node.proofs.engine.Engine.take_in.Goals as goal

pub returns-in-Datagram : goal.returns-in-Datagram
returns-in-Datagram g c = λ same net genesis log h seated speaks.
    let core = c.args.self.now in
    let approves = g.J.Judge.is_approved core.judge in
    let site = site_at g.O.Order.rules g.O.Carried.carrier net core.sbac genesis approves in
    let v = core_view log core.sbac h in
    let P : Input → Type 0 = λ input. OnOk c.hear_datagram.result (MakesMarks site (input_marks site v (input_of input)) v c.args.draft.now c.hear_datagram.new.draft (KeepsView g.O.Order.stands g.J.Judge.is_approved (deployed_setup core.sbac.config genesis approves) c.hear_datagram.new.self)) in
    subst P (sym c.in-Datagram.is) (c.hear_datagram.ensures same net genesis log h seated speaks)

pub returns-in-Tick : goal.returns-in-Tick
returns-in-Tick g c = λ same net genesis log h seated speaks.
    let core = c.args.self.now in
    let approves = g.J.Judge.is_approved core.judge in
    let site = site_at g.O.Order.rules g.O.Carried.carrier net core.sbac genesis approves in
    let v = core_view log core.sbac h in
    let P : Input → Type 0 = λ input. OnOk c.tick.result (MakesMarks site (input_marks site v (input_of input)) v c.args.draft.now c.tick.new.draft (KeepsView g.O.Order.stands g.J.Judge.is_approved (deployed_setup core.sbac.config genesis approves) c.tick.new.self)) in
    subst P (sym c.in-Tick.is) (c.tick.ensures net genesis log h seated)
