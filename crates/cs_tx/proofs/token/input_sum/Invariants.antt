use Rattle.std.proofs.Common.{◌≡◌, ◌≤◌, ◌*◌, ◌^◌, drop, map}
use Rattle.cs_tx.specs.Token.{sum_from}
use Rattle.cs_tx.proofs.token.input_sum.Given as goal

abbrev pub invariant-loop-item : goal.invariant-loop-item
invariant-loop-item l = record {
  sum : sum_from (map (λ item. item.1) (drop l.item-index l.items)) l.sum ≡ sum_from (map (λ item. item.1) l.items) 0;
  small : l.sum ≤ l.item-index * 2 ^ 63;
}
