use Rattle.std.proofs.Common.{◌≡◌, ◌+◌, length, take}
use Rattle.cs_base.specs.Fields.{each}
use Rattle.cs_tx_value.proofs.lists.room_each.Given as goal

abbrev pub invariant-loop-item : goal.invariant-loop-item
invariant-loop-item g l = l.left + length (each g.T.Encoded.encoding (take l.item-index l.items)) ≡ l.initial.left
