use Rattle.std.proofs.Common.{◌≡◌, ◌-◌, ◌≤◌, ◌++◌, [], length, replicate}
use Rattle.cs_merkle_kept.specs.Levels.{levels_of}
use Rattle.cs_merkle_kept.proofs.levels.grow.Given as goal

abbrev pub invariant-loop-alloc : goal.invariant-loop-alloc
invariant-loop-alloc l =
    (levels_of l.levels.items ≡ levels_of l.initial.levels.items
    ++ replicate (length l.levels.items - length l.initial.levels.items) [])
    × (length l.initial.levels.items ≤ length l.levels.items)
    × (length l.levels.items ≤ l.height)

abbrev pub decreases-loop-alloc : goal.decreases-loop-alloc
decreases-loop-alloc l = l.height - length l.levels.items
