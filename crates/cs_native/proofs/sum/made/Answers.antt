use Rattle.std.proofs.Common.{ℤ, ap, ◌∙◌, take}
use Rattle.std.proofs.Math.Facts.{to_z-of_z}
use Rattle.std.proofs.lemmas.List.{take_all}
use Rattle.cs_native.specs.Sum.{sum_of_kind}
use Rattle.cs_native.proofs.sum.made.Goals as goal

pub returns : goal.returns
returns c =
    c.loop-object.invariant.sum
    ∙ ap (λ (kind : ℤ). sum_of_kind kind (take c.loop-object.object-index c.args.outputs.now)) (to_z-of_z c.ranges.kind)
    ∙ ap (sum_of_kind c.args.kind) (take_all c.loop-object.object-index c.args.outputs.now c.loop-object-test.false)
