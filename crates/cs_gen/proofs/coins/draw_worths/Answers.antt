use Rattle.std.proofs.Common.{◌≡◌, ◌/◌, ◌^◌, ℕ, refl, ap, sym, ◌∙◌}
use Rattle.cs_gen.specs.Draws.{next_state, draw}
use Rattle.cs_gen.proofs.States.{state-none, state-more, drawn}
use Rattle.cs_gen.proofs.Worths.{worths-none, pushed}
use Rattle.cs_gen.proofs.coins.draw_worths.Goals as goal

pub loop-init : goal.loop-init
loop-init c = (c.new-worths.ensures.items ∙ sym (worths-none _), sym (state-none _))

pub loop-preserved : goal.loop-preserved
loop-preserved c =
    let first = c.args.draws.now.state in
    let n = c.loop.counter in
    let is : c.draw.result ≡ draw first n = c.draw.ensures.drawn ∙ ap (λ (s : ℕ). next_state s / 2 ^ 33) c.loop.invariant.1 ∙ drawn first n in (
      pushed first n _ c.loop.worths.items c.push.new.self.items c.draw.result c.in_ok-push.ensures.items c.loop.invariant.0 is refl,
      c.draw.ensures.state ∙ ap next_state c.loop.invariant.1 ∙ sym (state-more first n _ refl),
    )
