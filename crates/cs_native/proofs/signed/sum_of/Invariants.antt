use Rattle.std.proofs.Common.{◌≡◌, ◌≤◌, ◌*◌, ◌^◌, take}
use Rattle.cs_native.specs.Signed.{sum_of_notes}
use Rattle.cs_native.proofs.signed.sum_of.Given as goal

abbrev pub invariant-loop-object : goal.invariant-loop-object
invariant-loop-object l = record {
  sum : l.sum ≡ sum_of_notes (take l.object-index l.objects);
  small : l.sum ≤ l.object-index * 2 ^ 63;
}
