use Rattle.std.proofs.Common.{◌≡◌, ◌+◌, ◌/◌, ◌≤◌, min, length, take}
use Rattle.cs_merkle_kept.specs.Levels.{parents}
use Rattle.cs_merkle_kept.proofs.level.extend.Given as goal

abbrev pub invariant-loop-place : goal.invariant-loop-place
invariant-loop-place g l =
    (l.above.items ≡ take l.place (parents l.below)) × (l.place ≤ (length l.below + 1) / 2)
    × (l.steps + min (length l.initial.above.items) (length l.below / 2)
    ≡ l.initial.steps + min l.place (length l.below / 2))
