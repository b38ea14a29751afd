use Rattle.std.proofs.Common.{◌≡◌, ◌-◌, ap, ◌∙◌, arith}
use Rattle.std.proofs.lemmas.Result.{err_from_is_err_and}
use Rattle.cs_replay_rules.specs.Play.{then_plays, drained}
use Rattle.cs_replay_play.specs.Standing.{site_in}
use Rattle.cs_replay_play.proofs.Courses.{drained-zero}
use Rattle.cs_replay_play.proofs.Deliveries.{same-post, none-left, one-left, ends-drained}
use Rattle.cs_replay_play.proofs.play.Replay.drain.Goals as goal

pub returns-in-None-clause-ends : goal.returns-in-None-clause-ends
returns-in-None-clause-ends g c = λ s p st any.
    let (q, whole, here) = c.loop-left.invariant.1 s p st in (
      q,
      whole ∙ none-left g.O.Order.stands g.J.Judge.is_approved g.O.Order.rules g.O.Carried.carrier s c.args.line c.loop-left.left c.loop-left.self.post q c.loop-left-test.true here.holds.parcels c.in-None.ensures.left,
      same-post g.O.Order.stands g.J.Judge.is_approved g.O.Order.rules g.O.Carried.carrier s c.loop-left.self c.first_left.new.self _ q here c.first_left.ensures.same,
    )

pub returns-in_err-deliver-in-Some-clause-ends : goal.returns-in_err-deliver-in-Some-clause-ends
returns-in_err-deliver-in-Some-clause-ends g c = λ s p st any.
    let (q, whole, here) = c.loop-left.invariant.1 s p st in
    let before = same-post g.O.Order.stands g.J.Judge.is_approved g.O.Order.rules g.O.Carried.carrier s c.loop-left.self c.first_left.new.self _ q here c.first_left.ensures.same in
    let e = err_from_is_err_and c.from_residual.result c.from_residual.ensures.1 in
    rw (e.1, e.2)
    (ends-drained g.O.Order.stands g.J.Judge.is_approved g.O.Order.rules g.O.Carried.carrier s c.args.line c.loop-left.left c.in-Some.number c.loop-left.self.post _ q c.deliver.new.self _ c.in_err-deliver-in-Some.field-0.0 whole c.loop-left-test.true here.holds.parcels c.in-Some.ensures.left
    (c.in_err-deliver-in-Some.ensures.ends s q before tt))

pub loop-left-preserved : goal.loop-left-preserved
loop-left-preserved g c =
    let said = c.in_ok-deliver-in-Some.ensures in (
      omega (arith, said.cause.later, c.loop-left.invariant.0),
      λ s p st.
          let (q, whole, here) = c.loop-left.invariant.1 s p st in
          let before = same-post g.O.Order.stands g.J.Judge.is_approved g.O.Order.rules g.O.Carried.carrier s c.loop-left.self c.first_left.new.self _ q here c.first_left.ensures.same in
          let (more, goes, after) = said.ends s q before tt in (
            more,
            whole
                ∙ one-left g.O.Order.stands g.J.Judge.is_approved g.O.Order.rules g.O.Carried.carrier s c.args.line c.loop-left.left c.in-Some.number c.loop-left.self.post q c.loop-left-test.true here.holds.parcels c.in-Some.ensures.left
                ∙ ap (λ course. then_plays course (drained (site_in g.O.Order.rules g.O.Carried.carrier s) s.traced c.args.line (c.loop-left.left - 1))) goes,
            after,
          ),
    )

pub returns-clause-ends : goal.returns-clause-ends
returns-clause-ends g c = λ s p st any.
    let (q, whole, here) = c.loop-left.invariant.1 s p st in
    let none : c.loop-left.left ≡ 0 = omega (arith, c.loop-left-test.false) in
    (q, whole ∙ ap (λ n. drained (site_in g.O.Order.rules g.O.Carried.carrier s) s.traced c.args.line n q) none ∙ drained-zero (site_in g.O.Order.rules g.O.Carried.carrier s) s.traced c.args.line q, here)
