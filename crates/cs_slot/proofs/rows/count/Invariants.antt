use Rattle.std.proofs.Common.{◌≡◌, ◌≤◌}
use Rattle.cs_order.specs.Counts.{count_below}
use Rattle.cs_order_rules.specs.Slot.{is_digest}
use Rattle.cs_slot.specs.Kept.{said_in}
use Rattle.cs_slot.proofs.rows.count.Given as goal

abbrev pub invariant-loop-member : goal.invariant-loop-member
invariant-loop-member l = (l.count ≡ count_below l.member (λ member. is_digest l.digest (said_in l.row member))) × (l.count ≤ l.member)
