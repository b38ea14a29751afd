use Rattle.std.proofs.Common.{◌≡◌, ◌++◌, List, append-nil, sym, ap, subst, ◌∙◌}
use Rattle.std.specs.Map.{keys_of, values_of}
use Rattle.cs_merkle_kept.specs.declared.leaf.Leaf.{Leaf}
use Rattle.cs_merkle_kept.specs.Leaves.{AreRising, leaf_entries}
use Rattle.cs_base.specs.declared.key.Key.{Key}
use Rattle.cs_check.proofs.Hashing.{waiting_rise}
use Rattle.cs_check.proofs.hashes.leaves_of.Goals as goal

pub returns-clause-rising : goal.returns-clause-rising
returns-clause-rising c =
    let leaves = c.loop-leaf.leaves.items in
    let waiting = c.args.waiting.entries in
    let is : leaves ≡ values_of waiting =
    sym (append-nil leaves)
    ∙ ap (λ (left : List (Key × Leaf)). leaves ++ values_of left) (sym c.in-None.ensures.steps.0)
    ∙ c.loop-leaf.invariant.2 in
    subst (λ (ls : List Leaf). AreRising (keys_of (leaf_entries ls))) (sym is)
    (waiting_rise waiting c.requires c.into_iter-leaf-iterator.ensures.into_iter_gives.5)
