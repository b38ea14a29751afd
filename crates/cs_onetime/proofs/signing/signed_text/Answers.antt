use Rattle.std.proofs.Common.{◌≡◌, ℕ, List, ◌++◌, sym, ap, ◌∙◌}
use Rattle.cs_onetime.specs.Lists.{joined}
use Rattle.cs_onetime.specs.Signature.{half_of_text}
use Rattle.cs_onetime.proofs.Joins.{joined_none, joined_more}
use Rattle.cs_onetime.proofs.signing.signed_text.Goals as goal

pub loop-column-init : goal.loop-column-init
loop-column-init c = c.new-bytes.ensures.items ∙ sym (joined_none (half_of_text c.args.seed.now c.args.number c.args.message.now c.args.text))

pub loop-column-preserved : goal.loop-column-preserved
loop-column-preserved c =
    let at : ℕ → List ℕ = half_of_text c.args.seed.now c.args.number c.args.message.now c.args.text in
    let n = c.loop-column.column in
    let half : c.as_slice.result.now ≡ at n = c.as_slice.ensures ∙ c.signed_half-half.ensures in
    c.in_ok-extend_from_slice.ensures.items
    ∙ (ap (λ (l : List ℕ). l ++ c.as_slice.result.now) c.loop-column.invariant
    ∙ (ap (λ (l : List ℕ). joined at n ++ l) half ∙ sym (joined_more at n)))
