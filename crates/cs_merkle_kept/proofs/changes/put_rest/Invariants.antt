use Rattle.cs_merkle.specs.Tree.{leaves_of_vectors}
use Rattle.cs_merkle_kept.specs.Leaves.{leaf_entries}
use Rattle.cs_merkle_kept.proofs.Rest.{IsPutSoFar}
use Rattle.cs_merkle_kept.proofs.changes.put_rest.Given as goal

abbrev pub invariant-loop-leaf : goal.invariant-loop-leaf
invariant-loop-leaf l =
    IsPutSoFar (leaves_of_vectors l.initial.keys.items) l.initial.hashes.items (leaf_entries l.leaves)
    (leaves_of_vectors l.keys.items) l.hashes.items l.leaf-index l.first
