use Rattle.std.proofs.Common.{◌≡◌, None}
use Rattle.cs_order.specs.Counts.{first_below}
use Rattle.cs_order_rules.specs.Slot.{if_done}
use Rattle.cs_slot.specs.Kept.{seen_in}
use Rattle.cs_slot.proofs.slot.Slot.by_done.Given as goal

abbrev pub invariant-loop-member : goal.invariant-loop-member
invariant-loop-member l = first_below l.member (λ member. if_done (seen_in l.self) ((seen_in l.self).done member)) ≡ None
