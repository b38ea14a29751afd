use Rattle.std.proofs.Common.{◌≡◌, ℕ, List, ◌++◌, refl, ap, ◌∙◌}
use Rattle.cs_onetime.specs.Halves.{secret, image, both_images}
use Rattle.cs_onetime.proofs.Joins.{holds_none, holds_more}
use Rattle.cs_onetime.proofs.key.public_key.Goals as goal

pub loop-place-init : goal.loop-place-init
loop-place-init c = holds_none c.new-hasher.result (both_images c.args.seed.now c.args.number) c.new-hasher.ensures

pub loop-place-preserved : goal.loop-place-preserved
loop-place-preserved c =
    let seed = c.args.seed.now in
    let number = c.args.number in
    let n = c.loop-place.place in
    let one : c.image.result ≡ image (secret seed number n 0) =
    c.image.ensures ∙ ap image (c.secret.ensures ∙ ap (λ (k : List ℕ). secret k number n 0) c.new-key.ensures) in
    let two : c.image-in-loop-place.result ≡ image (secret seed number n 1) =
    c.image-in-loop-place.ensures ∙ ap image (c.secret-in-loop-place.ensures ∙ ap (λ (k : List ℕ). secret k number n 1) c.new-key.ensures) in
    let parts : both_images seed number n ≡ c.image.result ++ c.image-in-loop-place.result = rw (one, two) refl in
    holds_more c.update-in-loop-place.new.self (both_images seed number) n c.image.result c.image-in-loop-place.result parts
    (c.update-in-loop-place.ensures _ (c.update.ensures _ c.loop-place.invariant))
