use Rattle.std.proofs.Common.{◌≡◌, ◌++◌, take}
use Rattle.cs_base.specs.Fields.{each}
use Rattle.cs_tx_value.specs.Encoding.{value_encoding}
use Rattle.cs_tx_value.proofs.writing.+write.Given as goal

abbrev pub invariant-write_values-loop-value : goal.invariant-write_values-loop-value
invariant-write_values-loop-value l = l.out ≡ l.initial.out ++ each value_encoding (take l.value-index l.values)
