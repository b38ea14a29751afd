use Rattle.std.proofs.Common.{◌≡◌, ◌≤◌, ◌*◌, ◌^◌, drop}
use Rattle.cs_tx.specs.Token.{sum_from}
use Rattle.cs_tx.proofs.token.output_sum.Given as goal

abbrev pub invariant-loop-object : goal.invariant-loop-object
invariant-loop-object l = record {
  sum : sum_from (drop l.object-index l.objects) l.sum ≡ sum_from l.objects 0;
  small : l.sum ≤ l.object-index * 2 ^ 63;
}
