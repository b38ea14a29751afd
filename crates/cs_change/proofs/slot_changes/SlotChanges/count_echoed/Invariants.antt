use Rattle.std.proofs.Common.{◌≡◌, ◌≤◌}
use Rattle.cs_order.specs.Counts.{count_below}
use Rattle.cs_order_rules.specs.Safe.{says_echoed}
use Rattle.cs_change.specs.Kept.{change_in}
use Rattle.cs_change.proofs.slot_changes.SlotChanges.count_echoed.Given as goal

abbrev pub invariant-loop-member : goal.invariant-loop-member
invariant-loop-member l = (l.count ≡ count_below l.member (λ member. says_echoed l.from l.view l.digest (change_in l.self.changes l.view member))) × (l.count ≤ l.member)
