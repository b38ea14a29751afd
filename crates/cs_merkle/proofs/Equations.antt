-- The definitions meet the standard's equations.
use Rattle.std.proofs.Common.{length}
use Rattle.cs_merkle.specs.Tree.{merkle_tree_hash}
use Rattle.cs_merkle.specs.Path.{audit_path}
use Rattle.cs_merkle.specs.Standard.{IsTreeHash, IsAuditPath}
use Rattle.cs_merkle.proofs.Splits.{is_split, two_or_more}
use Rattle.cs_merkle.proofs.Trees.{hash_of_none, hash_of_one, hash_of_more, path_of_one, path_on_the_left, path_on_the_right}

pub tree_hash : IsTreeHash merkle_tree_hash
tree_hash = record {
  no_leaf = hash_of_none;
  one_leaf = hash_of_one;
  more = λ leaves k is.
      rw (is_split (length leaves) k is) (hash_of_more leaves (two_or_more (length leaves) k is));
}

pub audit : IsAuditPath merkle_tree_hash audit_path
audit = record {
  one_leaf = λ leaf. path_of_one leaf 0;
  on_the_left = λ leaves k place is left.
      let at = is_split (length leaves) k is in
      let some = two_or_more (length leaves) k is in
      rw at (path_on_the_left leaves place some (rw (← at) left));
  on_the_right = λ leaves k place is right.
      let at = is_split (length leaves) k is in
      let some = two_or_more (length leaves) k is in
      rw at (path_on_the_right leaves place some (rw (← at) right));
}
