use Rattle.std.proofs.Common.{ℕ, List, sym, subst}
use Rattle.cs_sched.specs.declared.schedule.Event.{Event}
use Rattle.cs_sched.specs.declared.schedule.Event.TheVariants.{Say, Inject, Tick}
use Rattle.cs_replay_rules.specs.Play.{play}
use Rattle.cs_replay_play.specs.Standing.{site_in, IsToAnother}
use Rattle.cs_replay_play.specs.Ends.{ReplayEnds}
use Rattle.cs_replay_play.proofs.play.Replay.play.Goals as goal

pub returns-in-Say-clause-ends : goal.returns-in-Say-clause-ends
returns-in-Say-clause-ends g c = λ s p st has.
    let here : IsToAnother s (Say c.in-Say.from c.in-Say.to c.in-Say.kind c.in-Say.body) = subst (λ (e : Event). IsToAnother s e) c.in-Say.is has in
    subst (λ (e : Event). ReplayEnds g.O.Order.stands g.J.Judge.is_approved g.O.Order.rules g.O.Carried.carrier s (play (site_in g.O.Order.rules g.O.Carried.carrier s) s.traced c.args.line e p) c.say.new.self (g.K.Sink.written c.say.new.output) c.say.result) (sym c.in-Say.is)
    (subst (λ (bs : List ℕ). ReplayEnds g.O.Order.stands g.J.Judge.is_approved g.O.Order.rules g.O.Carried.carrier s (play (site_in g.O.Order.rules g.O.Carried.carrier s) s.traced c.args.line (Say c.in-Say.from c.in-Say.to c.in-Say.kind bs) p) c.say.new.self (g.K.Sink.written c.say.new.output) c.say.result) c.as_slice.ensures
    (c.say.ensures.ends s p st here))

pub returns-in-Inject-clause-ends : goal.returns-in-Inject-clause-ends
returns-in-Inject-clause-ends g c = λ s p st has.
    let here : IsToAnother s (Inject c.in-Inject.to c.in-Inject.bytes) = subst (λ (e : Event). IsToAnother s e) c.in-Inject.is has in
    subst (λ (e : Event). ReplayEnds g.O.Order.stands g.J.Judge.is_approved g.O.Order.rules g.O.Carried.carrier s (play (site_in g.O.Order.rules g.O.Carried.carrier s) s.traced c.args.line e p) c.inject.new.self (g.K.Sink.written c.inject.new.output) c.inject.result) (sym c.in-Inject.is)
    (subst (λ (bs : List ℕ). ReplayEnds g.O.Order.stands g.J.Judge.is_approved g.O.Order.rules g.O.Carried.carrier s (play (site_in g.O.Order.rules g.O.Carried.carrier s) s.traced c.args.line (Inject c.in-Inject.to bs) p) c.inject.new.self (g.K.Sink.written c.inject.new.output) c.inject.result) c.as_slice-in-Inject.ensures
    (c.inject.ensures.ends s p st here))

pub returns-in-Tick-clause-ends : goal.returns-in-Tick-clause-ends
returns-in-Tick-clause-ends g c = λ s p st has.
    let here : IsToAnother s (Tick c.in-Tick.node) = subst (λ (e : Event). IsToAnother s e) c.in-Tick.is has in
    subst (λ (e : Event). ReplayEnds g.O.Order.stands g.J.Judge.is_approved g.O.Order.rules g.O.Carried.carrier s (play (site_in g.O.Order.rules g.O.Carried.carrier s) s.traced c.args.line e p) c.occur.new.self (g.K.Sink.written c.occur.new.output) c.occur.result) (sym c.in-Tick.is)
    (c.occur.ensures.ends s p st here)
