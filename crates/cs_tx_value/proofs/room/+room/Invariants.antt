use Rattle.std.proofs.Common.{◌≡◌, ◌+◌, length, take}
use Rattle.cs_base.specs.Fields.{each}
use Rattle.cs_tx_value.specs.Encoding.{value_encoding}
use Rattle.cs_tx_value.proofs.room.+room.Given as goal

abbrev pub invariant-values_room-loop-value : goal.invariant-values_room-loop-value
invariant-values_room-loop-value l = l.left + length (each value_encoding (take l.value-index l.values)) ≡ l.initial.left
