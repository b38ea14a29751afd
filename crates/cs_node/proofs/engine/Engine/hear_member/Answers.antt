use Rattle.std.proofs.Common.{◌≡◌, true, Some, List, ap, sym, subst, ◌∙◌, OnOk}
use Rattle.cs_base.specs.declared.version.Version.{Version}
use Rattle.cs_base.specs.declared.version.Version.TheVariants.{One}
use Rattle.cs_node_rules.specs.Site.{Mark}
use Rattle.cs_node_rules.specs.Members.{is_other_member}
use Rattle.cs_node_pool.specs.Deployed.{deployed_setup}
use Rattle.cs_node.specs.Steps.{MakesMarks}
use Rattle.cs_node.specs.Cores.{KeepsView, site_at, core_view}
use Rattle.cs_node.proofs.Heard.{member-here, other-low, other-apart}
use Rattle.cs_node.proofs.engine.Engine.hear_member.Goals as goal

pub returns-else-not-is_other_member : goal.returns-else-not-is_other_member
returns-else-not-is_other_member g c = λ net genesis log h seated.
    let core = c.args.self.now in
    let approves = g.J.Judge.is_approved core.judge in
    let site = site_at g.O.Order.rules g.O.Carried.carrier net core.sbac genesis approves in
    let v = core_view log core.sbac h in
    let first : (g.O.Carried.carrier One).read c.args.message ≡ Some c.in-Some.message = sym c.in_ok-read.ensures ∙ c.in-Some.is in
    let carries : site.carrier.read c.args.message ≡ Some c.in-Some.message = ap (λ (version : Version). (g.O.Carried.carrier version).read c.args.message) seated.first ∙ first in
    let other : is_other_member core.sbac.config.f core.sbac.me c.args.sender ≡ true = sym (c.if-not-is_other_member.ensures ∙ (λ i. is_other_member (c.config.ensures i).f (c.me.ensures i) c.args.sender)) in
    let P : List (Mark g.row.O-Message.Denot) → Type 0 = λ marks. OnOk c.take.result (MakesMarks site marks v c.args.draft.now c.take.new.draft (KeepsView g.O.Order.stands g.J.Judge.is_approved (deployed_setup core.sbac.config genesis approves) c.take.new.self)) in
    subst P (sym (member-here g.O.Order.stands g.J.Judge.is_approved g.O.Order.rules g.O.Carried.carrier net c.args.self.now genesis log h c.args.draft.now c.args.draft.now seated c.args.sender (site.carrier.read c.args.message) c.in-Some.message carries other))
    (c.take.ensures (other-low core.sbac.config.f core.sbac.me c.args.sender other) (other-apart core.sbac.config.f core.sbac.me c.args.sender other)
    ((g.met.O.Carried.carries One).proper c.args.message c.in-Some.message c.requires first) net genesis log h seated)
