use Rattle.std.proofs.Common.{◌≡◌, ◌++◌}
use Rattle.cs_merkle.specs.Tree.{leaves_of_vectors}
use Rattle.cs_table.specs.Seen.{AllStored}
use Rattle.cs_check.specs.Root.{record_leaves}
use Rattle.cs_check.proofs.root.record_leaves.Given as goal

abbrev pub invariant-loop-key : goal.invariant-loop-key
invariant-loop-key l =
    (goal.iterator-loop-key).can_next l.key-iterator
    × (goal.iterator-loop-key).is_finite l.key-iterator
    × AllStored l.key-iterator
    × (leaves_of_vectors l.leaves.items ++ record_leaves l.key-iterator ≡ record_leaves l.fn.rows)
