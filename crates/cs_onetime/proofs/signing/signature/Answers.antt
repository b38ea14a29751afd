use Rattle.std.proofs.Common.{◌≡◌, ℕ, List, [], ◌∷◌, ◌++◌, Vec, sym, ap, ◌∙◌}
use Rattle.std.proofs.lemmas.List.{map-append}
use Rattle.std.specs.declared.alloc.Global.{Global}
use Rattle.cs_onetime.specs.Lists.{listed}
use Rattle.cs_onetime.specs.Signature.{signed_text, texts_in}
use Rattle.cs_onetime.proofs.Joins.{listed_none, listed_more}
use Rattle.cs_onetime.proofs.signing.signature.Goals as goal

pub loop-text-init : goal.loop-text-init
loop-text-init c = ap texts_in c.new-texts.ensures.items ∙ sym (listed_none (signed_text c.args.seed.now c.args.number c.args.message.now))

pub loop-text-preserved : goal.loop-text-preserved
loop-text-preserved c =
    let at : ℕ → List ℕ = signed_text c.args.seed.now c.args.number c.args.message.now in
    let n = c.loop-text.text in
    let made = c.in_ok-signed_text.field-0 in
    let old = c.loop-text.texts.items in
    let text : made.items ≡ at n = c.in_ok-signed_text.ensures ∙ ap (λ (k : List ℕ). signed_text k c.args.number c.args.message.now n) c.new-key.ensures in
    ap texts_in c.in_ok-push.ensures.items
    ∙ (map-append (λ (t : Vec ℕ Global). t.items) old (made ∷ [])
    ∙ (ap (λ (l : List (List ℕ)). l ++ made.items ∷ []) c.loop-text.invariant
    ∙ (ap (λ (l : List ℕ). listed at n ++ l ∷ []) text ∙ sym (listed_more at n))))
