use Rattle.std.proofs.Common.{◌≡◌, ℕ, ◌+◌, ◌<◌, min, length, sym, subst, arith, rules}
use Rattle.std.proofs.lemmas.List.{length-map}
use Rattle.cs_merkle.specs.Tree.{leaves_of_vectors}
use Rattle.cs_merkle_kept.specs.Leaves.{leaf_entry, leaf_entries}
use Rattle.cs_merkle_kept.proofs.Front.{entry_at}
use Rattle.cs_merkle_kept.proofs.Rest.{IsPutSoFar, so_far_more}
use Rattle.cs_merkle_kept.proofs.changes.put_rest.Goals as goal

pub loop-leaf-preserved : goal.loop-leaf-preserved
loop-leaf-preserved c =
    let keys = leaves_of_vectors c.args.keys.now.items in
    let hashes = c.args.hashes.now.items in
    let entries = leaf_entries c.args.leaves.now in
    let item = c.leaf-item.result in
    let i = c.loop-leaf.leaf-index in
    let first = c.loop-leaf.first in
    let place = c.in_ok-place.place in
    let there : i < length entries = omega (arith, length-map c.args.leaves.now leaf_entry) in
    let least : c.min-first.result ≡ min first place = search rules in
    let keys' = leaves_of_vectors c.put_one.new.keys.items in
    let hashes' = c.put_one.new.hashes.items in
    subst (λ (f : ℕ). IsPutSoFar keys hashes entries keys' hashes' (i + 1) f) (sym least)
    (so_far_more keys hashes entries (leaves_of_vectors c.loop-leaf.keys.items) c.loop-leaf.hashes.items
    keys' hashes' i first place (leaf_entry item) there
    (entry_at c.args.leaves.now i item c.leaf-item.is) c.loop-leaf.invariant c.in_ok-place.ensures)
