use Rattle.std.proofs.Common.{◌≡◌, true, false, sym, ap, ◌∙◌, arith, rules}
use Rattle.cs_replay_rules.specs.Play.{first_left}
use Rattle.cs_replay_play.proofs.Fronts.{front-more, left-next, left-none}
use Rattle.cs_replay_play.proofs.post.Post.first_left.Goals as goal

pub returns-then-not-has_arrived-clause-left : goal.returns-then-not-has_arrived-clause-left
returns-then-not-has_arrived-clause-left c =
    let kept = c.loop-self.invariant.1 in
    let waits : c.index.result.now.arrived ≡ false = sym c.has_arrived.ensures ∙ (search rules) in
    sym (left-next c.loop-self.self-inside.delivered c.loop-self.self-inside.parcels.items c.index.result.now kept.front (omega (arith, c.loop-self-test.true, c.len.ensures)) c.index.ensures waits)
    ∙ ap (λ parcels. first_left 0 parcels) (ap (λ parcels. parcels.items) c.loop-self.invariant.0 ∙ c.self.view_is)

pub loop-self-preserved : goal.loop-self-preserved
loop-self-preserved c =
    let kept = c.loop-self.invariant.1 in
    let came : c.index.result.now.arrived ≡ true = sym c.has_arrived.ensures ∙ (search rules) in (
      c.loop-self.invariant.0,
      record {
        counted = kept.counted;
        within = kept.within;
        noted = kept.noted;
        front = front-more c.loop-self.self-inside.delivered c.loop-self.self-inside.parcels.items c.index.result.now kept.front (omega (arith, c.loop-self-test.true, c.len.ensures)) c.index.ensures came;
      },
    )

pub returns-clause-left : goal.returns-clause-left
returns-clause-left c =
    sym (left-none c.loop-self.self-inside.delivered c.loop-self.self-inside.parcels.items c.loop-self.invariant.1.front (omega (arith, c.loop-self-test.false, c.len.ensures)))
    ∙ ap (λ parcels. first_left 0 parcels) (ap (λ parcels. parcels.items) c.loop-self.invariant.0 ∙ c.self.view_is)
