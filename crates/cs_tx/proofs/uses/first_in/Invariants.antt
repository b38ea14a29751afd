use Rattle.std.proofs.Common.{◌≡◌, drop}
use Rattle.std.specs.List.{find}
use Rattle.cs_tx.specs.Uses.{is_in, names}
use Rattle.cs_tx.proofs.uses.first_in.Given as goal

abbrev pub invariant-loop-item : goal.invariant-loop-item
invariant-loop-item l = find (is_in l.config l.shard) (names (drop l.item-index l.items)) ≡ find (is_in l.config l.shard) (names l.items)
