use Rattle.std.proofs.Common.{◌≡◌, ◌≤◌, ◌*◌, ◌^◌, take, map}
use Rattle.cs_native.specs.Sum.{sum_of_kind}
use Rattle.cs_native.proofs.sum.spent.Given as goal

abbrev pub invariant-loop-item : goal.invariant-loop-item
invariant-loop-item l = record {
  sum : l.sum ≡ sum_of_kind l.kind (map (λ item. item.1) (take l.item-index l.inputs));
  small : l.sum ≤ l.item-index * 2 ^ 63;
}
