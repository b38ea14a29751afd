use Rattle.std.proofs.Common.{◌≡◌, ℕ, ◌<◌, get_or, []}
use Rattle.std.specs.declared.cmp.Ordering.TheVariants.{Less}
use Rattle.std.specs.Map.{keys_of}
use Rattle.cs_merkle_kept.specs.Leaves.{leaf_entries, byte_order}
use Rattle.cs_merkle_kept.proofs.places.are_rising.Given as goal

abbrev pub invariant-loop-i : goal.invariant-loop-i
invariant-loop-i l =
    (a b : ℕ) → a < b → b < l.i →
    byte_order (get_or (keys_of (leaf_entries l.leaves)) a []) (get_or (keys_of (leaf_entries l.leaves)) b [])
    ≡ Less
