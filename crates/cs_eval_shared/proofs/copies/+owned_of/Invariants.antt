use Rattle.std.proofs.Common.{◌≡◌, take}
use Rattle.cs_eval_shared.proofs.copies.+owned_of.Given as goal

abbrev pub invariant-each_owned-loop-value : goal.invariant-each_owned-loop-value
invariant-each_owned-loop-value l = l.items ≡ take l.value-index l.values
