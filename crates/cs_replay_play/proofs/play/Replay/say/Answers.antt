use Rattle.std.proofs.Common.{ℕ, List, subst, ◌∙◌}
use Rattle.std.proofs.lemmas.Result.{err_from_is_err_and}
use Rattle.cs_node_rules.specs.Site.{Datagram}
use Rattle.cs_replay_rules.specs.Play.{occurs}
use Rattle.cs_replay_play.specs.Standing.{site_in}
use Rattle.cs_replay_play.specs.Ends.{ReplayEnds}
use Rattle.cs_replay_play.proofs.Courses.{occurs-grows}
use Rattle.cs_replay_play.proofs.Deliveries.{same-voices, said-bytes}
use Rattle.cs_replay_play.proofs.play.Replay.say.Goals as goal

pub returns-in_err-bytes-clause-ends : goal.returns-in_err-bytes-clause-ends
returns-in_err-bytes-clause-ends g c = λ s p st has.
    let (rest, grown) = occurs-grows (site_in g.O.Order.rules g.O.Carried.carrier s) s.traced c.args.line c.args.names.1 (Datagram (s.net.datagram c.args.names.0 c.args.names.1 c.args.kind c.args.body.now)) p in
    let e = err_from_is_err_and c.from_residual.result c.from_residual.ensures.1 in
    rw (e.1, e.2) (p.text, rest, grown, st.printed)

pub returns-clause-ends : goal.returns-clause-ends
returns-clause-ends g c = λ s p st has.
    let r = c.args.self.now in
    let bytes = said-bytes s r.history.config.shards r.voices c.args.names.0 c.args.names.1 c.args.kind c.args.body.now c.in_ok-bytes.bytes.items st.holds.rests has.0 has.1 c.in_ok-bytes.ensures.says in
    subst
    (λ (bs : List ℕ). ReplayEnds g.O.Order.stands g.J.Judge.is_approved g.O.Order.rules g.O.Carried.carrier s (occurs (site_in g.O.Order.rules g.O.Carried.carrier s) s.traced c.args.line c.args.names.1 (Datagram bs) p) c.occur.new.self (g.K.Sink.written c.occur.new.output) c.occur.result)
    (c.deref.ensures.value ∙ bytes)
    (c.occur.ensures.ends s p (same-voices g.O.Order.stands g.J.Judge.is_approved g.O.Order.rules g.O.Carried.carrier s r c.say.new.self _ p st c.in_ok-bytes.ensures.same) has.0)
