use Rattle.std.proofs.Common.{is_some, sym, ap, ◌∙◌, ne_eqb}
use Rattle.cs_order_rules.specs.Slot.{quorum}
use Rattle.cs_slot.specs.Kept.{said_in_view}
use Rattle.cs_slot.proofs.Adding.{none_if}
use Rattle.cs_slot.proofs.Ends.{confirmed_end, confirmed_less}
use Rattle.cs_slot.proofs.slot.Slot.confirm.Goals as goal

pub invariant_of-self-else-is_some : goal.invariant_of-self-else-is_some
invariant_of-self-else-is_some c =
    let none = none_if (quorum c.self.inside.f (said_in_view c.add.new.self c.args.view)) (sym (c.if-is_some.ensures ∙ ap is_some c.quorum.ensures)) in
    (c.self.invariant.0, c.self.invariant.1, c.self.invariant.2, confirmed_less c.self.inside.end c.self.inside.f c.self.inside.me c.self.inside.confirms c.add.new.self c.in_ok-fresh.fresh c.args.view c.args.member c.args.digest c.self.invariant.3 (ne_eqb c.args.member c.self.inside.me c.if-member-self.false) none c.in_ok-fresh.ensures.now)

pub invariant_of-self-then-member-self : goal.invariant_of-self-then-member-self
invariant_of-self-then-member-self c =
    let ends = c.end_with-self-inside.ensures in
    (c.self.invariant.0, c.self.invariant.1, ends.bound, confirmed_end c.self.inside.end c.end_with-self-inside.result c.self.inside.f c.self.inside.me c.self.inside.confirms c.add.new.self c.in_ok-fresh.fresh c.args.view c.args.member c.args.digest c.self.invariant.3 ends.kept ends.above c.in_ok-fresh.ensures.now)
