use Rattle.std.proofs.Common.{ℕ, ◌+◌, drop, Err, sym, ap, subst, ◌∙◌}
use Rattle.std.proofs.lemmas.Result.{err_from_is_err_and}
use Rattle.cs_sched.specs.declared.schedule.Event.{Event}
use Rattle.cs_replay_rules.specs.Play.{Course, play, play_all}
use Rattle.cs_replay_play.specs.Standing.{site_in, IsToAnother}
use Rattle.cs_replay_play.specs.Ends.{ReplayEnds}
use Rattle.cs_replay_play.proofs.Courses.{drop-next, all-at, all-grows, ends-then}
use Rattle.cs_replay_play.proofs.Taken.{all-quiet}
use Rattle.cs_replay_play.proofs.play.Replay.play_all.Goals as goal

pub returns-in_err-play-clause-ends : goal.returns-in_err-play-clause-ends
returns-in_err-play-clause-ends g c = λ s p st has.
    let site = site_in g.O.Order.rules g.O.Carried.carrier s in
    let events = c.args.events.now in
    let k = c.loop-line.line-index in
    let item = c.loop-line-item.result in
    let (q, whole, here) = c.loop-line.invariant.1 s p st has in
    let next = whole ∙ ap (λ es. play_all site s.traced es q) (drop-next k events item c.loop-line-test.true c.loop-line-item.is) in
    let for-it = all-at (λ (x : ℕ × Event). IsToAnother s x.1) events k item has c.loop-line-test.true c.loop-line-item.is in
    let e = err_from_is_err_and c.from_residual.result c.from_residual.ensures.1 in
    rw (e.1, e.2)
    (subst (λ (course : Course g.row.O-Message.Denot). ReplayEnds g.O.Order.stands g.J.Judge.is_approved g.O.Order.rules g.O.Carried.carrier s course c.play.new.self (g.K.Sink.written c.play.new.output) (Err c.in_err-play.field-0.0)) (sym next)
    (ends-then g.O.Order.stands g.J.Judge.is_approved g.O.Order.rules g.O.Carried.carrier s (play site s.traced item.0 item.1 q) (play_all site s.traced (drop (k + 1) events)) c.play.new.self (g.K.Sink.written c.play.new.output) c.in_err-play.field-0.0
    (all-grows site s.traced (drop (k + 1) events)) (c.in_err-play.ensures.ends s q here for-it)))

pub returns-in_err-play-clause-quiet : goal.returns-in_err-play-clause-quiet
returns-in_err-play-clause-quiet g c = λ s p st.
    all-quiet g.O.Order.stands g.J.Judge.is_approved g.O.Order.rules g.O.Carried.carrier s c.play.new.self p st

pub returns-clause-quiet : goal.returns-clause-quiet
returns-clause-quiet g c = λ s p st.
    all-quiet g.O.Order.stands g.J.Judge.is_approved g.O.Order.rules g.O.Carried.carrier s c.loop-line.self p st
