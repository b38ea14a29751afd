use Rattle.std.proofs.Common.{◌≡◌, take}
use Rattle.cs_eval_values.proofs.objects.kept_each.Given as goal

abbrev pub invariant-loop-i : goal.invariant-loop-i
invariant-loop-i l = l.kept ≡ take l.i l.objects
