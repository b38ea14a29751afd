use Rattle.std.proofs.Common.{◌≡◌, take}
use Rattle.cs_eval_shared.proofs.copies.+shared_of.Given as goal

abbrev pub invariant-each_shared-loop-value : goal.invariant-each_shared-loop-value
invariant-each_shared-loop-value l = l.items ≡ take l.value-index l.values
