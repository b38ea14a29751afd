-- The entries are what was there without its first ones.
use Rattle.std.proofs.Common.{◌≡◌, ◌+◌, ◌-◌, ◌≤◌, length, drop, max}
use Rattle.cs_order.proofs.kept_log.KeptLog.cut.Given as goal

abbrev pub invariant-loop-self : goal.invariant-loop-self
invariant-loop-self l =
    (l.initial.self.first ≤ l.self.first)
    × (l.self.first ≤ max l.slot l.initial.self.first)
    × (l.self.first + length l.self.entries.items ≡ l.initial.self.first + length l.initial.self.entries.items)
    × (l.self.entries.items ≡ drop (l.self.first - l.initial.self.first) l.initial.self.entries.items)

abbrev pub decreases-loop-self : goal.decreases-loop-self
decreases-loop-self l = l.slot - l.self.first
