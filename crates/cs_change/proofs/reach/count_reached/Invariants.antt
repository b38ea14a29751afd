use Rattle.std.proofs.Common.{◌≡◌, ◌≤◌}
use Rattle.cs_order.specs.Counts.{count_below}
use Rattle.cs_change.specs.Kept.{reaches}
use Rattle.cs_change.proofs.reach.count_reached.Given as goal

abbrev pub invariant-loop-member : goal.invariant-loop-member
invariant-loop-member l = (l.count ≡ count_below l.member (reaches l.furthest.entries l.view)) × (l.count ≤ l.member)
