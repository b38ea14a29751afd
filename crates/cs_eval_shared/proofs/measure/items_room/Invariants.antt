use Rattle.std.proofs.Common.{◌≡◌, ◌+◌, length, take}
use Rattle.cs_base.specs.Fields.{each}
use Rattle.cs_tx_value.specs.Encoding.{value_encoding}
use Rattle.cs_eval_shared.proofs.measure.items_room.Given as goal

abbrev pub invariant-loop-item : goal.invariant-loop-item
invariant-loop-item l = l.left + length (each value_encoding (take l.item-index l.items)) ≡ l.initial.left
