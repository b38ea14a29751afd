use Rattle.std.proofs.Common.{◌≡◌, ◌++◌, take}
use Rattle.cs_base.specs.Fields.{each}
use Rattle.cs_tx_value.proofs.lists.write_each.Given as goal

abbrev pub invariant-loop-item : goal.invariant-loop-item
invariant-loop-item g l = l.out ≡ l.initial.out ++ each g.T.Encoded.encoding (take l.item-index l.items)
