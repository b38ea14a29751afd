use Rattle.std.proofs.Common.{◌≡◌, length}
use Rattle.cs_merkle.specs.Tree.{leaves_of_vectors}
use Rattle.cs_merkle_kept.specs.Leaves.{leaf_entries}
use Rattle.cs_merkle_kept.specs.Puts.{IsPutFront}
use Rattle.cs_merkle_kept.proofs.changes.put_front.Given as goal

abbrev pub invariant-loop-leaf : goal.invariant-loop-leaf
invariant-loop-leaf l =
    IsPutFront (leaves_of_vectors l.keys) (leaf_entries l.leaves) l.initial.hashes l.hashes l.places.items
    × (length l.places.items ≡ l.leaf-index)
