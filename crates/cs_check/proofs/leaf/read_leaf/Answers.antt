use Rattle.std.proofs.Common.{ℕ, List, [], sym, ap, ◌∙◌, subst, arith}
use Rattle.std.specs.Prelude.{Some}
use Rattle.std.proofs.lemmas.List.{length-map}
use Rattle.std.proofs.lemmas.Option.{slice_get-get_or}
use Rattle.cs_merkle.specs.Tree.{leaves_of_vectors}
use Rattle.cs_check_rules.specs.Chain.{IsLeaf}
use Rattle.cs_check.proofs.Parts.{leaf_is}
use Rattle.cs_check.proofs.leaf.read_leaf.Goals as goal

pub decode_leaf-requires : goal.decode_leaf-requires
decode_leaf-requires c =
    let vectors = c.args.leaves.now in
    let at = leaf_is vectors c.args.slot c.index-leaves-slot.result c.requires.within
    c.index-leaves-slot.is in
    rw c.as_slice.ensures.value
    (subst IsLeaf at
    (c.requires.leaves c.args.slot []
    (omega (arith, c.requires.within, length-map vectors (λ v. v.items)))))

pub returns-clause-leaf : goal.returns-clause-leaf
returns-clause-leaf c =
    let vectors = c.args.leaves.now in
    let at = leaf_is vectors c.args.slot c.index-leaves-slot.result c.requires.within
    c.index-leaves-slot.is in
    slice_get-get_or (leaves_of_vectors vectors) c.args.slot []
    (omega (arith, c.requires.within, length-map vectors (λ v. v.items)))
    ∙ ap (λ (bytes : List ℕ). Some bytes)
    (at ∙ sym c.as_slice.ensures.value ∙ c.in_ok-leaf.ensures.1)
