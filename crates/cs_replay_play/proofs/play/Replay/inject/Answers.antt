use Rattle.std.proofs.Common.{◌<◌, length, subst, arith}
use Rattle.cs_replay_rules.specs.Play.{Course, most_events}
use Rattle.cs_replay_play.specs.Standing.{site_in}
use Rattle.cs_replay_play.specs.Ends.{ReplayEnds}
use Rattle.cs_replay_play.proofs.Forgeries.{no-more, is-forged, is-given}
use Rattle.cs_replay_play.proofs.play.Replay.inject.Goals as goal

pub returns-then-self-ge-MOST_EVENTS-clause-ends : goal.returns-then-self-ge-MOST_EVENTS-clause-ends
returns-then-self-ge-MOST_EVENTS-clause-ends g c = λ s p st has.
    let site = site_in g.O.Order.rules g.O.Carried.carrier s in
    (p, no-more site s.traced c.args.line c.args.to c.args.bytes.now p (omega (arith, c.if-self-ge-MOST_EVENTS.true, st.holds.events)), st.printed)

pub returns-then-not-genuine-clause-ends : goal.returns-then-not-genuine-clause-ends
returns-then-not-genuine-clause-ends g c = λ s p st has.
    let site = site_in g.O.Order.rules g.O.Carried.carrier s in
    let few : length p.world < most_events = omega (arith, c.if-self-ge-MOST_EVENTS.false, st.holds.events) in
    (p, is-forged site s.traced c.args.line c.args.to c.args.bytes.now p _ few (c.is_genuine-genuine.ensures s p st.holds has) c.if-not-genuine.true, st.printed)

pub returns-clause-ends : goal.returns-clause-ends
returns-clause-ends g c = λ s p st has.
    let site = site_in g.O.Order.rules g.O.Carried.carrier s in
    let few : length p.world < most_events = omega (arith, c.if-self-ge-MOST_EVENTS.false, st.holds.events) in
    subst (λ (course : Course g.row.O-Message.Denot). ReplayEnds g.O.Order.stands g.J.Judge.is_approved g.O.Order.rules g.O.Carried.carrier s course c.occur.new.self (g.K.Sink.written c.occur.new.output) c.occur.result)
    (is-given site s.traced c.args.line c.args.to c.args.bytes.now p _ few (c.is_genuine-genuine.ensures s p st.holds has) c.if-not-genuine.false)
    (c.occur.ensures.ends s p st has)
