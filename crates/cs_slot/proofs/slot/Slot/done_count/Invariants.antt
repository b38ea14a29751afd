use Rattle.std.proofs.Common.{◌≡◌, ◌≤◌}
use Rattle.cs_order.specs.Counts.{count_below}
use Rattle.cs_order_rules.specs.Slot.{is_entry}
use Rattle.cs_slot.specs.Kept.{entry_kept}
use Rattle.cs_slot.proofs.slot.Slot.done_count.Given as goal

abbrev pub invariant-loop-member : goal.invariant-loop-member
invariant-loop-member l = (l.count ≡ count_below l.member (λ member. is_entry l.entry (entry_kept l.self-inside.dones member))) × (l.count ≤ l.member)
