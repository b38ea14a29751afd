use Rattle.std.proofs.Common.{◌≡◌, ℕ, Option, None, sym, ap, ◌∙◌, arith}
use Rattle.cs_order.specs.declared.proposed.Proposed.{Proposed}
use Rattle.cs_order.specs.Limits.{view_bound}
use Rattle.cs_order_rules.specs.Slot.{chosen_entry, quorum}
use Rattle.cs_order.proofs.Searches.{first_none, first_at, first_more, first_ends}
use Rattle.cs_slot.specs.Kept.{KeptSlot, seen_in}
use Rattle.cs_slot.proofs.slot.Slot.by_confirm.Goals as goal

abbrev found : KeptSlot → ℕ → Option Proposed
found k view = chosen_entry (seen_in k) (quorum k.f ((seen_in k).confirm view))

unknown : (k : KeptSlot) (view : ℕ) → quorum k.f ((seen_in k).confirm view) ≡ None → found k view ≡ None
unknown k view none = ap (chosen_entry (seen_in k)) none

pub loop-view-init : goal.loop-view-init
loop-view-init c = first_none (found c.args.self.now)

pub returns-in-Some : goal.returns-in-Some
returns-in-Some c =
    let less = c.loop-view-test.true in
    let few = c.self.invariant.2 in
    sym (first_at view_bound c.loop-view.view (found c.args.self.now) c.in-Some.entry.now (omega arith) c.loop-view.invariant (sym c.in-Some.ensures))

pub loop-view-preserved : goal.loop-view-preserved
loop-view-preserved c = first_more c.loop-view.view (found c.args.self.now) c.loop-view.invariant (sym c.in_default.ensures)

pub returns : goal.returns
returns c =
    let late = c.loop-view-test.false in
    let last = c.loop-view.auto.view-end in
    let at_end : c.loop-view.view ≡ c.self.inside.end = omega arith in
    let none = rw at_end at c.loop-view.invariant in
    let all = first_ends view_bound c.self.inside.end (found c.args.self.now) c.self.invariant.2 (λ v a b. unknown c.args.self.now v (rw (← c.self.view_is) (c.self.invariant.3 v a b).1)) in
    sym (all ∙ none)
