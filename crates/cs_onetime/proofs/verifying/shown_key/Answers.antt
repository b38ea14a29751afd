use Rattle.std.proofs.Common.{◌≡◌, ℕ, ◌+◌, ◌%◌, List, sym, ap, subst, ◌∙◌}
use Rattle.sha2.specs.declared.Sha256.{Sha256}
use Rattle.sha2.specs.Hashers.{Holds256}
use Rattle.cs_onetime.specs.Lists.{joined}
use Rattle.cs_onetime.specs.Halves.{image}
use Rattle.cs_onetime.specs.Signature.{half_in, revealed, given, shown_images}
use Rattle.cs_onetime.proofs.Joins.{holds_none, holds_more}
use Rattle.cs_onetime.proofs.Shows.{shows_first, shows_last}
use Rattle.cs_onetime.proofs.verifying.shown_key.Goals as goal
use Rattle.cs_onetime.proofs.verifying.shown_key.Goals.{then-bit_of-eq0, else-bit_of-eq0}

pub loop-place-init : goal.loop-place-init
loop-place-init g c = holds_none c.new-hasher.result (shown_images c.args.message.now (g.T.Texts.texts c.args.texts.now)) c.new-hasher.ensures

pub loop-place-preserved : goal.loop-place-preserved
loop-place-preserved g c =
    let message = c.args.message.now in
    let texts = g.T.Texts.texts c.args.texts.now in
    let n = c.loop-place.place in
    let shown = c.image-shown.result in
    let beside = c.half_in-given.result in
    let one : shown ≡ image (revealed texts n) =
    c.image-shown.ensures ∙ ap image (c.half_in.ensures ∙ ap (λ (t : List ℕ). half_in t (n % 16)) c.text.ensures) in
    let two : beside ≡ given texts n =
    c.half_in-given.ensures ∙ ap (λ (t : List ℕ). half_in t (n % 16)) c.text-in-loop-place.ensures in
    elim c.if-bit_of-eq0.branch [
      | then-bit_of-eq0 w ↦
          let none = sym c.bit_of.ensures.is ∙ w.if-bit_of-eq0.true in
          subst (λ (h : Sha256). Holds256 h (joined (shown_images message texts) (n + 1))) (sym w.hasher-is)
          (holds_more _ (shown_images message texts) n shown beside (shows_first message texts n shown beside none one two)
          (w.update-then-bit_of-eq0.ensures _ (w.update.ensures _ c.loop-place.invariant)))
      | else-bit_of-eq0 w ↦
          subst (λ (h : Sha256). Holds256 h (joined (shown_images message texts) (n + 1))) (sym w.hasher-is)
          (holds_more _ (shown_images message texts) n beside shown (shows_last message texts n shown beside (λ e. w.if-bit_of-eq0.false (c.bit_of.ensures.is ∙ e)) one two)
          (w.update-else-bit_of-eq0-2.ensures _ (w.update-else-bit_of-eq0.ensures _ c.loop-place.invariant)))
    ]
