use Rattle.std.proofs.Common.{◌≡◌, Bool, true, sym, subst, ◌∙◌}
use Rattle.cs_order.specs.Calls.{Replies}
use Rattle.cs_node_rules.specs.Members.{is_other_member}
use Rattle.cs_node.proofs.Heard.{unanswered-here, answered-here, may-ask}
use Rattle.cs_node.proofs.engine.Engine.hear_want.Goals as goal

pub returns-then-not-branch : goal.returns-then-not-branch
returns-then-not-branch g c = λ net genesis log h seated.
    let core = c.args.self.now in
    let other : is_other_member core.sbac.config.f core.sbac.me c.args.sender ≡ true = sym (c.if-not-is_other_member.ensures ∙ (λ i. is_other_member (c.config.ensures i).f (c.me.ensures i) c.args.sender)) in
    let allowed = may-ask core.sbac.config core.sbac.me c.args.sender h.f h.me (g.O.Order.f core.order) (g.O.Order.me core.order) other seated.f_is seated.index_is (g.met.O.Order.belongs core.order h seated.stood) in
    let R : Bool → Type 0 = λ answer. Replies g.O.Order.rules h c.args.slot c.args.sender.index answer c.new-outgoing.result.items c.reply.new.out.items (g.O.Order.stands core.order) in
    unanswered-here g.O.Order.stands g.J.Judge.is_approved g.O.Order.rules g.O.Carried.carrier net c.args.self.now genesis log h c.args.draft.now c.drop_it-then-not-branch.new.self seated c.args.sender c.args.slot c.new-outgoing.result.items c.reply.new.out.items other
    (subst R c.if-not-branch.true (c.in_ok-reply.ensures.call h seated.stood allowed.0 allowed.1)) c.in_ok-drop_it-2.ensures

pub returns : goal.returns
returns g c = λ net genesis log h seated.
    let core = c.args.self.now in
    let other : is_other_member core.sbac.config.f core.sbac.me c.args.sender ≡ true = sym (c.if-not-is_other_member.ensures ∙ (λ i. is_other_member (c.config.ensures i).f (c.me.ensures i) c.args.sender)) in
    let allowed = may-ask core.sbac.config core.sbac.me c.args.sender h.f h.me (g.O.Order.f core.order) (g.O.Order.me core.order) other seated.f_is seated.index_is (g.met.O.Order.belongs core.order h seated.stood) in
    let R : Bool → Type 0 = λ answer. Replies g.O.Order.rules h c.args.slot c.args.sender.index answer c.new-outgoing.result.items c.reply.new.out.items (g.O.Order.stands core.order) in
    answered-here g.O.Order.stands g.J.Judge.is_approved g.O.Order.rules g.O.Carried.carrier net c.args.self.now genesis log h c.args.draft.now c.hand_out.new.draft seated c.args.sender c.args.slot c.new-outgoing.result.items c.reply.new.out.items c.new-outgoing.ensures.items other
    (subst R c.if-not-branch.false (c.in_ok-reply.ensures.call h seated.stood allowed.0 allowed.1)) (c.in_ok-hand_out.ensures net genesis (g.J.Judge.is_approved core.judge) seated.first)
