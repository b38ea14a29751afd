use Rattle.std.proofs.Common.{◌≡◌, ◌≤◌, ◌*◌, ◌^◌, take}
use Rattle.cs_native.specs.Sum.{sum_of_kind}
use Rattle.cs_native.proofs.sum.made.Given as goal

abbrev pub invariant-loop-object : goal.invariant-loop-object
invariant-loop-object l = record {
  sum : l.sum ≡ sum_of_kind l.kind (take l.object-index l.outputs);
  small : l.sum ≤ l.object-index * 2 ^ 63;
}
