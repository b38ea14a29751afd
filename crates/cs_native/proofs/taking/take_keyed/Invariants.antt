use Rattle.std.proofs.Common.{take}
use Rattle.cs_base.specs.Fields.{each}
use Rattle.cs_tx_types.specs.Transaction.{keyed_encoding}
use Rattle.cs_native.specs.Taking.{Takes}
use Rattle.cs_native.proofs.taking.take_keyed.Given as goal

abbrev pub invariant-loop-item : goal.invariant-loop-item
invariant-loop-item l = Takes l.initial.hasher l.hasher (each keyed_encoding (take l.item-index l.items))
