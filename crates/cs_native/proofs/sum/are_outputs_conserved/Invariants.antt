use Rattle.std.proofs.Common.{◌≡◌, drop, map}
use Rattle.std.specs.List.{list_all}
use Rattle.cs_native.specs.Sum.{purse_of, is_conserved}
use Rattle.cs_native.proofs.sum.are_outputs_conserved.Given as goal

abbrev pub invariant-loop-object : goal.invariant-loop-object
invariant-loop-object l =
    let objects = map (λ item. item.1) l.inputs in
    list_all (λ object. is_conserved objects l.outputs (purse_of object)) (drop l.object-index l.outputs)
    ≡ list_all (λ object. is_conserved objects l.outputs (purse_of object)) l.outputs
