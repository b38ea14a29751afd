use Rattle.std.proofs.Common.{◌≡◌, ℕ, ◌+◌, ◌*◌, Option, sym, ap, arith}
use Rattle.cs_order.specs.declared.proposed.Proposed.{Proposed}
use Rattle.cs_order_rules.specs.Slot.{if_done}
use Rattle.cs_order.proofs.Searches.{first_none, first_at, first_more}
use Rattle.cs_slot.specs.Kept.{KeptSlot, seen_in}
use Rattle.cs_slot.proofs.slot.Slot.by_done.Goals as goal

abbrev found : KeptSlot → ℕ → Option Proposed
found k member = if_done (seen_in k) ((seen_in k).done member)

pub loop-member-init : goal.loop-member-init
loop-member-init c = first_none (found c.args.self.now)

pub returns-in-Some : goal.returns-in-Some
returns-in-Some c =
    let same = ap (λ (k : KeptSlot). k.f) c.self.view_is in
    let less = c.loop-member-test.true in
    sym (first_at (3 * c.args.self.now.f + 1) c.loop-member.member (found c.args.self.now) c.in-Some.entry.now (omega arith) c.loop-member.invariant (sym c.in-Some.ensures))

pub loop-member-preserved : goal.loop-member-preserved
loop-member-preserved c = first_more c.loop-member.member (found c.args.self.now) c.loop-member.invariant (sym c.in_default.ensures)

pub returns : goal.returns
returns c =
    let same = ap (λ (k : KeptSlot). k.f) c.self.view_is in
    let late = c.loop-member-test.false in
    let last = c.loop-member.auto.member-end in
    let at_end : c.loop-member.member ≡ 3 * c.args.self.now.f + 1 = omega arith in
    sym (rw at_end at c.loop-member.invariant)
