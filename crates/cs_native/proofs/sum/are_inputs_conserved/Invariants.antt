use Rattle.std.proofs.Common.{◌≡◌, drop, map}
use Rattle.std.specs.List.{list_all}
use Rattle.cs_native.specs.Sum.{purse_of, is_conserved}
use Rattle.cs_native.proofs.sum.are_inputs_conserved.Given as goal

abbrev pub invariant-loop-item : goal.invariant-loop-item
invariant-loop-item l =
    let objects = map (λ item. item.1) l.inputs in
    list_all (λ object. is_conserved objects l.outputs (purse_of object)) (map (λ item. item.1) (drop l.item-index l.inputs))
    ≡ list_all (λ object. is_conserved objects l.outputs (purse_of object)) objects
