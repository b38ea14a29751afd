use Rattle.std.proofs.Common.{◌≡◌, drop}
use Rattle.cs_eval_values.specs.Filling.{each_filled}
use Rattle.cs_proc_parts.proofs.beginning.take.Given as goal

abbrev pub invariant-loop-slot : goal.invariant-loop-slot
invariant-loop-slot l = each_filled l.contract l.types (drop l.slot-index l.slots) (l.names, l.left) ≡ each_filled l.contract l.types l.slots (l.initial.names, l.initial.left)
