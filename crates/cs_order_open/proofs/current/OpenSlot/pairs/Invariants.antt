use Rattle.std.proofs.Common.{◌≡◌}
use Rattle.cs_order_rules.specs.Rules.{pairs_below}
use Rattle.cs_change.specs.Kept.{change_in}
use Rattle.cs_order_open.proofs.current.OpenSlot.pairs.Given as goal

abbrev pub invariant-loop-member : goal.invariant-loop-member
invariant-loop-member l = l.pairs.items ≡ pairs_below l.member (change_in l.self.changes.changes l.self.slot.view)
