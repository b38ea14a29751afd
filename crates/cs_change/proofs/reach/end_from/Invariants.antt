use Rattle.std.proofs.Common.{◌≡◌, ℕ, ◌≤◌, ◌<◌, true}
use Rattle.cs_change.specs.Kept.{is_joined}
use Rattle.cs_change.proofs.reach.end_from.Given as goal

abbrev pub invariant-loop-view : goal.invariant-loop-view
invariant-loop-view l = (v : ℕ) → l.from ≤ v → v < l.view → is_joined l.f l.furthest.entries v ≡ true
