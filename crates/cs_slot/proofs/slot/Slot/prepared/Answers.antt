use Rattle.std.proofs.Common.{◌≡◌, ℕ, List, Option, None, sym, ap, ◌∙◌, arith}
use Rattle.cs_order.specs.Limits.{view_bound}
use Rattle.cs_order_rules.specs.Slot.{in_view}
use Rattle.cs_order.proofs.Searches.{last_none, last_more, last_ends}
use Rattle.cs_slot.specs.Kept.{KeptSlot, seen_in}
use Rattle.cs_slot.proofs.slot.Slot.prepared.Goals as goal

abbrev found : KeptSlot → ℕ → Option (ℕ × List ℕ)
found k view = in_view view ((seen_in k).confirm view k.me)

pub loop-view-init : goal.loop-view-init
loop-view-init c = last_none (found c.args.self.now)

pub loop-view-preserved : goal.loop-view-preserved
loop-view-preserved c = last_more c.loop-view.view (found c.args.self.now) c.loop-view.last c.prepared_in.result c.or-last.result c.loop-view.invariant c.prepared_in.ensures c.or-last.ensures

pub returns : goal.returns
returns c =
    let late = c.loop-view-test.false in
    let last = c.loop-view.auto.view-end in
    let at_end : c.loop-view.view ≡ c.self.inside.end = omega arith in
    let all = last_ends view_bound c.self.inside.end (found c.args.self.now) c.self.invariant.2 (λ v a b. rw (← c.self.view_is) (ap (in_view v) (c.self.invariant.3 v a b).0)) in
    rw at_end at c.loop-view.invariant ∙ sym all
