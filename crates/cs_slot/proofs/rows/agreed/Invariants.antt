use Rattle.std.proofs.Common.{◌≡◌, None}
use Rattle.cs_order.specs.Counts.{first_below}
use Rattle.cs_order_rules.specs.Slot.{if_enough}
use Rattle.cs_slot.specs.Kept.{said_in}
use Rattle.cs_slot.proofs.rows.agreed.Given as goal

abbrev pub invariant-loop-member : goal.invariant-loop-member
invariant-loop-member l = first_below l.member (λ member. if_enough l.f (said_in l.row) (said_in l.row member)) ≡ None
