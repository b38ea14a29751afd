use Rattle.std.proofs.Common.{◌≡◌, ℕ, List, [], ◌∷◌, Some, refl, sym, subst, arith}
use Rattle.std.proofs.lemmas.Result.{err_from_is_err_and}
use Rattle.cs_io.specs.Told.{Changes}
use Rattle.cs_io.specs.declared.link.MemInput.{MemInput}
use Rattle.cs_io.specs.declared.link.MemInput.TheVariants as came
use Rattle.cs_io.specs.Outside.{beside}
use Rattle.cs_io.specs.laws.Told.{stays-both}
use Rattle.cs_node_rules.specs.Deployment.{site_of}
use Rattle.cs_node.specs.Cores.{CoreStandsFor}
use Rattle.cs_serve.specs.declared.ending.End.TheVariants.{Done}
use Rattle.cs_serve.specs.Giving.{given_of}
use Rattle.cs_serve.proofs.Giving.{Gives-kept}
use Rattle.cs_serve.proofs.Runs.{le_more}
use Rattle.cs_serve.proofs.Turns.{passes-answer, turn-ended, turn-failed}
use Rattle.cs_serve.proofs.serving.take_turn.Goals as goal

pub returns-in_ok-core-in-Datagram-clause-takes : goal.returns-in_ok-core-in-Datagram-clause-takes
returns-in_ok-core-in-Datagram-clause-takes g c = λ setup net v is.
    let site = site_of setup net g.O.Order.rules g.O.Carried.carrier in
    record {
      inputs = given_of (came.Datagram c.split_at.result.0.now) ∷ [];
      one = (given_of (came.Datagram c.split_at.result.0.now), refl, refl);
      passes = passes-answer (CoreStandsFor g.O.Order.stands g.J.Judge.is_approved site) site v (came.Datagram c.split_at.result.0.now) (beside (g.L.Link.told c.args.link.now) (g.K.Sink.written c.args.out.now)) (beside (g.L.Link.told c.receive.new.link) (g.K.Sink.written c.args.out.now)) (beside (g.L.Link.told c.answer.new.link) (g.K.Sink.written c.answer.new.out)) (Done, Some c.in_ok-core-in-Datagram.core)
          (subst (λ (bytes : List ℕ). Changes (λ (before now : List MemInput). before ≡ came.Datagram bytes ∷ now) (g.L.Link.told c.args.link.now).left (g.L.Link.told c.receive.new.link).left) (sym c.split_at.ensures.front) c.in-Datagram.ensures.input.1) c.in-Datagram.ensures.missed c.in-Datagram.ensures.offered refl c.answer.ensures.left c.answer.ensures.missed (c.in_ok-core-in-Datagram.ensures.answers setup net v is);
    }

pub returns-in_err-core-in-Datagram-clause-takes : goal.returns-in_err-core-in-Datagram-clause-takes
returns-in_err-core-in-Datagram-clause-takes g c = λ setup net v is.
    let site = site_of setup net g.O.Order.rules g.O.Carried.carrier in
    let p = err_from_is_err_and c.from_residual.result c.from_residual.ensures.1 in
    rw (p.1, p.2)
    (record {
      inputs = given_of (came.Datagram c.split_at.result.0.now) ∷ [];
      one = omega arith;
      passes = passes-answer (CoreStandsFor g.O.Order.stands g.J.Judge.is_approved site) site v (came.Datagram c.split_at.result.0.now) (beside (g.L.Link.told c.args.link.now) (g.K.Sink.written c.args.out.now)) (beside (g.L.Link.told c.receive.new.link) (g.K.Sink.written c.args.out.now)) (beside (g.L.Link.told c.answer.new.link) (g.K.Sink.written c.answer.new.out)) c.in_err-core-in-Datagram.field-0.0
          (subst (λ (bytes : List ℕ). Changes (λ (before now : List MemInput). before ≡ came.Datagram bytes ∷ now) (g.L.Link.told c.args.link.now).left (g.L.Link.told c.receive.new.link).left) (sym c.split_at.ensures.front) c.in-Datagram.ensures.input.1) c.in-Datagram.ensures.missed c.in-Datagram.ensures.offered refl c.answer.ensures.left c.answer.ensures.missed (c.in_err-core-in-Datagram.ensures.answers setup net v is);
    })

pub returns-in_ok-core-in-Tick-clause-takes : goal.returns-in_ok-core-in-Tick-clause-takes
returns-in_ok-core-in-Tick-clause-takes g c = λ setup net v is.
    let site = site_of setup net g.O.Order.rules g.O.Carried.carrier in
    record {
      inputs = given_of came.Tick ∷ [];
      one = (given_of came.Tick, refl, refl);
      passes = passes-answer (CoreStandsFor g.O.Order.stands g.J.Judge.is_approved site) site v came.Tick (beside (g.L.Link.told c.args.link.now) (g.K.Sink.written c.args.out.now)) (beside (g.L.Link.told c.receive.new.link) (g.K.Sink.written c.args.out.now)) (beside (g.L.Link.told c.answer-in-Tick.new.link) (g.K.Sink.written c.answer-in-Tick.new.out)) (Done, Some c.in_ok-core-in-Tick.core)
          c.in-Tick.ensures.input c.in-Tick.ensures.missed c.in-Tick.ensures.offered refl c.answer-in-Tick.ensures.left c.answer-in-Tick.ensures.missed (c.in_ok-core-in-Tick.ensures.answers setup net v is);
    }

pub returns-in_err-core-in-Tick-clause-takes : goal.returns-in_err-core-in-Tick-clause-takes
returns-in_err-core-in-Tick-clause-takes g c = λ setup net v is.
    let site = site_of setup net g.O.Order.rules g.O.Carried.carrier in
    let p = err_from_is_err_and c.from_residual-in_err-core-in-Tick.result c.from_residual-in_err-core-in-Tick.ensures.1 in
    rw (p.1, p.2)
    (record {
      inputs = given_of came.Tick ∷ [];
      one = omega arith;
      passes = passes-answer (CoreStandsFor g.O.Order.stands g.J.Judge.is_approved site) site v came.Tick (beside (g.L.Link.told c.args.link.now) (g.K.Sink.written c.args.out.now)) (beside (g.L.Link.told c.receive.new.link) (g.K.Sink.written c.args.out.now)) (beside (g.L.Link.told c.answer-in-Tick.new.link) (g.K.Sink.written c.answer-in-Tick.new.out)) c.in_err-core-in-Tick.field-0.0
          c.in-Tick.ensures.input c.in-Tick.ensures.missed c.in-Tick.ensures.offered refl c.answer-in-Tick.ensures.left c.answer-in-Tick.ensures.missed (c.in_err-core-in-Tick.ensures.answers setup net v is);
    })

pub returns-in-End-clause-takes : goal.returns-in-End-clause-takes
returns-in-End-clause-takes g c = λ setup net v is.
    let site = site_of setup net g.O.Order.rules g.O.Carried.carrier in
    turn-ended (CoreStandsFor g.O.Order.stands g.J.Judge.is_approved site) site v (beside (g.L.Link.told c.args.link.now) (g.K.Sink.written c.args.out.now)) (beside (g.L.Link.told c.receive.new.link) (g.K.Sink.written c.args.out.now)) c.args.core is c.in-End.ensures.input.1 c.in-End.ensures.input.0
    (Gives-kept (beside (g.L.Link.told c.args.link.now) (g.K.Sink.written c.args.out.now)) (beside (g.L.Link.told c.receive.new.link) (g.K.Sink.written c.args.out.now)) c.in-End.ensures.offered refl)

pub returns-in-Failed-clause-takes : goal.returns-in-Failed-clause-takes
returns-in-Failed-clause-takes g c = λ setup net v is.
    let site = site_of setup net g.O.Order.rules g.O.Carried.carrier in
    turn-failed (CoreStandsFor g.O.Order.stands g.J.Judge.is_approved site) site v (beside (g.L.Link.told c.args.link.now) (g.K.Sink.written c.args.out.now)) (beside (g.L.Link.told c.receive.new.link) (g.K.Sink.written c.args.out.now)) c.args.core is c.in-Failed.ensures.input c.in-Failed.ensures.missed
    (Gives-kept (beside (g.L.Link.told c.args.link.now) (g.K.Sink.written c.args.out.now)) (beside (g.L.Link.told c.receive.new.link) (g.K.Sink.written c.args.out.now)) c.in-Failed.ensures.offered refl)

-- ---- what a receive and the answer leave together

pub returns-in_ok-core-in-Datagram-clause-bound : goal.returns-in_ok-core-in-Datagram-clause-bound
returns-in_ok-core-in-Datagram-clause-bound g c =
    stays-both (g.L.Link.told c.args.link.now).bound (g.L.Link.told c.receive.new.link).bound (g.L.Link.told c.answer.new.link).bound c.receive.ensures.bound c.answer.ensures.bound

pub returns-in_ok-core-in-Datagram-clause-placed : goal.returns-in_ok-core-in-Datagram-clause-placed
returns-in_ok-core-in-Datagram-clause-placed g c =
    stays-both (g.L.Link.told c.args.link.now).placed (g.L.Link.told c.receive.new.link).placed (g.L.Link.told c.answer.new.link).placed c.receive.ensures.placed c.answer.ensures.placed

pub returns-in_err-core-in-Datagram-clause-bound : goal.returns-in_err-core-in-Datagram-clause-bound
returns-in_err-core-in-Datagram-clause-bound g c =
    stays-both (g.L.Link.told c.args.link.now).bound (g.L.Link.told c.receive.new.link).bound (g.L.Link.told c.answer.new.link).bound c.receive.ensures.bound c.answer.ensures.bound

pub returns-in_err-core-in-Datagram-clause-placed : goal.returns-in_err-core-in-Datagram-clause-placed
returns-in_err-core-in-Datagram-clause-placed g c =
    stays-both (g.L.Link.told c.args.link.now).placed (g.L.Link.told c.receive.new.link).placed (g.L.Link.told c.answer.new.link).placed c.receive.ensures.placed c.answer.ensures.placed

pub returns-in_ok-core-in-Datagram-clause-link : goal.returns-in_ok-core-in-Datagram-clause-link
returns-in_ok-core-in-Datagram-clause-link g c = record { later = le_more (g.L.Link.faults c.args.link.now) (g.L.Link.faults c.receive.new.link) (g.L.Link.faults c.answer.new.link) c.receive.ensures.cause.later c.answer.ensures.link; cause = λ failed. absurd cc }

pub returns-in_ok-core-in-Tick-clause-bound : goal.returns-in_ok-core-in-Tick-clause-bound
returns-in_ok-core-in-Tick-clause-bound g c =
    stays-both (g.L.Link.told c.args.link.now).bound (g.L.Link.told c.receive.new.link).bound (g.L.Link.told c.answer-in-Tick.new.link).bound c.receive.ensures.bound c.answer-in-Tick.ensures.bound

pub returns-in_ok-core-in-Tick-clause-placed : goal.returns-in_ok-core-in-Tick-clause-placed
returns-in_ok-core-in-Tick-clause-placed g c =
    stays-both (g.L.Link.told c.args.link.now).placed (g.L.Link.told c.receive.new.link).placed (g.L.Link.told c.answer-in-Tick.new.link).placed c.receive.ensures.placed c.answer-in-Tick.ensures.placed

pub returns-in_err-core-in-Tick-clause-bound : goal.returns-in_err-core-in-Tick-clause-bound
returns-in_err-core-in-Tick-clause-bound g c =
    stays-both (g.L.Link.told c.args.link.now).bound (g.L.Link.told c.receive.new.link).bound (g.L.Link.told c.answer-in-Tick.new.link).bound c.receive.ensures.bound c.answer-in-Tick.ensures.bound

pub returns-in_err-core-in-Tick-clause-placed : goal.returns-in_err-core-in-Tick-clause-placed
returns-in_err-core-in-Tick-clause-placed g c =
    stays-both (g.L.Link.told c.args.link.now).placed (g.L.Link.told c.receive.new.link).placed (g.L.Link.told c.answer-in-Tick.new.link).placed c.receive.ensures.placed c.answer-in-Tick.ensures.placed

pub returns-in_ok-core-in-Tick-clause-link : goal.returns-in_ok-core-in-Tick-clause-link
returns-in_ok-core-in-Tick-clause-link g c = record { later = le_more (g.L.Link.faults c.args.link.now) (g.L.Link.faults c.receive.new.link) (g.L.Link.faults c.answer-in-Tick.new.link) c.receive.ensures.cause.later c.answer-in-Tick.ensures.link; cause = λ failed. absurd cc }
