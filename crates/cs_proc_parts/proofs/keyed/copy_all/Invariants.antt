use Rattle.std.proofs.Common.{◌≡◌, take}
use Rattle.cs_proc_parts.proofs.keyed.copy_all.Given as goal

abbrev pub invariant-loop-item : goal.invariant-loop-item
invariant-loop-item l = l.copied ≡ take l.item-index l.items
