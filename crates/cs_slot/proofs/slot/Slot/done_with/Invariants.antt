use Rattle.std.proofs.Common.{◌≡◌, None}
use Rattle.cs_order.specs.Counts.{first_below}
use Rattle.cs_order_rules.specs.Slot.{with_digest}
use Rattle.cs_slot.specs.Kept.{entry_kept}
use Rattle.cs_slot.proofs.slot.Slot.done_with.Given as goal

abbrev pub invariant-loop-member : goal.invariant-loop-member
invariant-loop-member l = first_below l.member (λ member. with_digest l.digest (entry_kept l.self-inside.dones member)) ≡ None
