use Rattle.std.proofs.Common.{◌≡◌, ℤ, ap, ◌∙◌, List, map, nat_eq, to_z, of_z, SFits, w64, rules}
use Rattle.std.proofs.Math.Facts.{to_z-of_z}
use Rattle.cs_tx_types.specs.Transaction.{Keyed}
use Rattle.cs_tx_value.specs.declared.object.Object.{Object}
use Rattle.cs_native.specs.Sum.{sum_of_kind, is_conserved}
use Rattle.cs_native.proofs.sum.is_conserved.Goals as goal

pub returns-in-Some : goal.returns-in-Some
returns-in-Some c =
    let objects : List Keyed → List Object = map (λ item. item.1) in
    let fits : SFits w64 c.in-Some.purse.kind = search rules in
    let kind : to_z w64 (of_z w64 c.in-Some.purse.kind) ≡ c.in-Some.purse.kind = to_z-of_z fits in
    ap (λ n. nat_eq n c.made.result) (c.spent.ensures ∙ ap (λ (k : ℤ). sum_of_kind k (objects c.args.inputs.now)) kind)
    ∙ ap (nat_eq (sum_of_kind c.in-Some.purse.kind (objects c.args.inputs.now))) (c.made.ensures ∙ ap (λ (k : ℤ). sum_of_kind k c.args.outputs.now) kind)
    ∙ ap (is_conserved (objects c.args.inputs.now) c.args.outputs.now) c.in-Some.ensures.purse
