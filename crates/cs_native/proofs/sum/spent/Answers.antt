use Rattle.std.proofs.Common.{ℤ, ap, ◌∙◌, List, map, take}
use Rattle.std.proofs.Math.Facts.{to_z-of_z}
use Rattle.std.proofs.lemmas.List.{take_all}
use Rattle.cs_tx_types.specs.Transaction.{Keyed}
use Rattle.cs_native.specs.Sum.{sum_of_kind}
use Rattle.cs_native.proofs.sum.spent.Goals as goal

pub returns : goal.returns
returns c =
    c.loop-item.invariant.sum
    ∙ ap (λ (kind : ℤ). sum_of_kind kind (map (λ item. item.1) (take c.loop-item.item-index c.args.inputs.now))) (to_z-of_z c.ranges.kind)
    ∙ ap (λ (items : List Keyed). sum_of_kind c.args.kind (map (λ item. item.1) items)) (take_all c.loop-item.item-index c.args.inputs.now c.loop-item-test.false)
