use Rattle.std.proofs.Common.{◌∙◌, ap, arith}
use Rattle.cs_merkle.specs.Tree.{leaf_hash}
use Rattle.cs_merkle.proofs.Halves.{root_of_none, root_of_one, root_of_halves}
use Rattle.cs_merkle.proofs.tree.+root.Goals as goal

pub returns-in-empty : goal.returns-in-empty
returns-in-empty t c = c.digest.ensures ∙ root_of_none c.args.leaves.now c.in-empty.len_below

pub returns-in-len1 : goal.returns-in-len1
returns-in-len1 t c =
    let one = c.in-len1 in
    c.hash_leaf.ensures ∙ ap leaf_hash c.as_slice.ensures.value
    ∙ root_of_one c.args.leaves.now c.leaf-item.result one.len_at_least one.len_below c.leaf-item.is

pub returns-in_default : goal.returns-in_default
returns-in_default t c =
    let cut = c.split_at.ensures in
    rw (c.join.ensures, c.root.ensures, c.root-in_default.ensures)
    (root_of_halves c.args.leaves.now c.split_at.result.0.now c.split_at.result.1.now
    c.left_half.result (omega (arith, c.in_default.len_at_least)) c.left_half.ensures.split
    cut.front cut.back)
