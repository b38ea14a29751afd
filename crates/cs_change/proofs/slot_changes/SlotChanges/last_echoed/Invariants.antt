use Rattle.std.proofs.Common.{◌≡◌, ℕ, ◌-◌, ◌≤◌, ◌<◌, true, false}
use Rattle.cs_change.specs.Kept.{change_in, is_echoed}
use Rattle.cs_change.proofs.slot_changes.SlotChanges.last_echoed.Given as goal

abbrev pub invariant-loop-low : goal.invariant-loop-low
invariant-loop-low l =
    (l.low ≤ l.high) × (l.high ≤ l.view)
    × ((v : ℕ) → v < l.low → is_echoed l.self.f (change_in l.self.changes l.view) l.view l.digest v ≡ true)
    × ((v : ℕ) → l.high ≤ v → v < l.view → is_echoed l.self.f (change_in l.self.changes l.view) l.view l.digest v ≡ false)

abbrev pub decreases-loop-low : goal.decreases-loop-low
decreases-loop-low l = l.high - l.low
