use Rattle.std.proofs.Common.{take}
use Rattle.cs_base.specs.Fields.{each}
use Rattle.cs_tx_value.specs.Encoding.{value_encoding}
use Rattle.cs_native.specs.Taking.{Takes}
use Rattle.cs_native.proofs.taking.+take.Given as goal

abbrev pub invariant-take_values-loop-value : goal.invariant-take_values-loop-value
invariant-take_values-loop-value l = Takes l.initial.hasher l.hasher (each value_encoding (take l.value-index l.values))
