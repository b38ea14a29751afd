use Rattle.std.proofs.Common.{◌≡◌, ◌++◌}
use Rattle.std.specs.Map.{values_of}
use Rattle.cs_check.proofs.hashes.leaves_of.Given as goal

abbrev pub invariant-loop-leaf : goal.invariant-loop-leaf
invariant-loop-leaf l =
    (goal.iterator-loop-leaf).can_next l.leaf-iterator
    × (goal.iterator-loop-leaf).is_finite l.leaf-iterator
    × (l.leaves.items ++ values_of l.leaf-iterator ≡ values_of l.fn.waiting.entries)
