use Rattle.std.proofs.Common.{take}
use Rattle.cs_base.specs.Fields.{each}
use Rattle.cs_tx_value.specs.Object.{object_encoding}
use Rattle.cs_native.specs.Taking.{Takes}
use Rattle.cs_native.proofs.taking.take_objects.Given as goal

abbrev pub invariant-loop-object : goal.invariant-loop-object
invariant-loop-object l = Takes l.initial.hasher l.hasher (each object_encoding (take l.object-index l.objects))
