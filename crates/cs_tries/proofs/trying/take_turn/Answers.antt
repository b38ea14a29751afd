use Rattle.std.specs.Prelude.{true, false, Bool}
use Rattle.std.proofs.Common.{◌≡◌, ℕ, List, ◌∷◌, Err, refl, sym, subst}
use Rattle.std.proofs.lemmas.Result.{err_from_is_err_and}
use Rattle.cs_io.specs.Told.{Changes}
use Rattle.cs_io.specs.Outside.{beside}
use Rattle.cs_io.specs.declared.link.MemInput.TheVariants as came
use Rattle.cs_client.specs.Inputs.{ClientInput}
use Rattle.cs_waits.specs.declared.noted.NotedClient.{NotedClient}
use Rattle.cs_serve.specs.declared.client_ending.Ending.TheVariants.{LinkFault}
use Rattle.cs_serve.proofs.Runs.{le_same}
use Rattle.cs_tries.specs.declared.ending.TryEnding.TheVariants.{Ended, WriteFault}
use Rattle.cs_tries.proofs.TryRuns.{try-answered, try-on, try-ended, try-none, same-ending}
use Rattle.cs_tries.proofs.trying.take_turn.Goals as goal

pub returns-in_ok-noted-in-Datagram-clause-goes : goal.returns-in_ok-noted-in-Datagram-clause-goes
returns-in_ok-noted-in-Datagram-clause-goes g c = λ t stands detailed left.
    try-on t (came.Datagram c.split_at.result.0.now)
    (g.L.Link.told c.args.link.now)
    (g.L.Link.told c.receive.new.link)
    (g.L.Link.told c.answer.new.link) (g.K.Sink.written c.args.out.now) (g.K.Sink.written c.answer.new.out)
    c.in_ok-noted-in-Datagram.noted c.in_ok-noted-in-Datagram.tries false refl (subst (λ (bytes : List ℕ). Changes (λ (before now : List ClientInput). before ≡ came.Datagram bytes ∷ now) (g.L.Link.told c.args.link.now).left (g.L.Link.told c.receive.new.link).left) (sym c.split_at.ensures.front) c.in-Datagram.ensures.input.1)
    c.in-Datagram.ensures.missed c.in-Datagram.ensures.offered c.answer.ensures.left c.answer.ensures.missed (c.in_ok-noted-in-Datagram.ensures.goes t stands detailed left)

pub returns-in_err-noted-in-Datagram-clause-goes : goal.returns-in_err-noted-in-Datagram-clause-goes
returns-in_err-noted-in-Datagram-clause-goes g c = λ t stands detailed left.
    let p = err_from_is_err_and c.from_residual.result c.from_residual.ensures.1 in
    rw (p.1, p.2)
    (try-ended t (beside (g.L.Link.told c.args.link.now) (g.K.Sink.written c.args.out.now)) (beside (g.L.Link.told c.answer.new.link) (g.K.Sink.written c.answer.new.out)) c.in_err-noted-in-Datagram.field-0.0
    (try-answered t (came.Datagram c.split_at.result.0.now)
    (g.L.Link.told c.args.link.now)
    (g.L.Link.told c.receive.new.link)
    (g.L.Link.told c.answer.new.link) (g.K.Sink.written c.args.out.now) (g.K.Sink.written c.answer.new.out)
    (Err c.in_err-noted-in-Datagram.field-0.0) (subst (λ (bytes : List ℕ). Changes (λ (before now : List ClientInput). before ≡ came.Datagram bytes ∷ now) (g.L.Link.told c.args.link.now).left (g.L.Link.told c.receive.new.link).left) (sym c.split_at.ensures.front) c.in-Datagram.ensures.input.1)
    c.in-Datagram.ensures.missed c.in-Datagram.ensures.offered c.answer.ensures.left c.answer.ensures.missed (c.in_err-noted-in-Datagram.ensures.goes t stands detailed left)))

pub returns-in_ok-noted-in-Tick-clause-goes : goal.returns-in_ok-noted-in-Tick-clause-goes
returns-in_ok-noted-in-Tick-clause-goes g c = λ t stands detailed left.
    try-on t came.Tick
    (g.L.Link.told c.args.link.now)
    (g.L.Link.told c.receive.new.link)
    (g.L.Link.told c.answer-in-Tick.new.link) (g.K.Sink.written c.args.out.now) (g.K.Sink.written c.answer-in-Tick.new.out)
    c.in_ok-noted-in-Tick.noted c.in_ok-noted-in-Tick.tries true refl c.in-Tick.ensures.input
    c.in-Tick.ensures.missed c.in-Tick.ensures.offered c.answer-in-Tick.ensures.left c.answer-in-Tick.ensures.missed (c.in_ok-noted-in-Tick.ensures.goes t stands detailed left)

pub returns-in_err-noted-in-Tick-clause-goes : goal.returns-in_err-noted-in-Tick-clause-goes
returns-in_err-noted-in-Tick-clause-goes g c = λ t stands detailed left.
    let p = err_from_is_err_and c.from_residual-in_err-noted-in-Tick.result c.from_residual-in_err-noted-in-Tick.ensures.1 in
    rw (p.1, p.2)
    (try-ended t (beside (g.L.Link.told c.args.link.now) (g.K.Sink.written c.args.out.now)) (beside (g.L.Link.told c.answer-in-Tick.new.link) (g.K.Sink.written c.answer-in-Tick.new.out)) c.in_err-noted-in-Tick.field-0.0
    (try-answered t came.Tick
    (g.L.Link.told c.args.link.now)
    (g.L.Link.told c.receive.new.link)
    (g.L.Link.told c.answer-in-Tick.new.link) (g.K.Sink.written c.args.out.now) (g.K.Sink.written c.answer-in-Tick.new.out)
    (Err c.in_err-noted-in-Tick.field-0.0) c.in-Tick.ensures.input
    c.in-Tick.ensures.missed c.in-Tick.ensures.offered c.answer-in-Tick.ensures.left c.answer-in-Tick.ensures.missed (c.in_err-noted-in-Tick.ensures.goes t stands detailed left)))

pub returns-in-End-clause-goes : goal.returns-in-End-clause-goes
returns-in-End-clause-goes g c = λ t stands detailed left.
    try-none t (beside (g.L.Link.told c.args.link.now) (g.K.Sink.written c.args.out.now)) (beside (g.L.Link.told c.receive.new.link) (g.K.Sink.written c.args.out.now)) c.ending_of.result
    (record {
      none = record {
        none = c.in-End.ensures.input.0;
        left = c.in-End.ensures.input.1;
        offered = c.in-End.ensures.offered;
      };
      written = refl;
      ends = c.ending_of.ensures.ends t stands;
    })

pub returns-in-Failed-clause-goes : goal.returns-in-Failed-clause-goes
returns-in-Failed-clause-goes g c = λ t stands detailed left. (
  record {
    missed = c.in-Failed.ensures.missed;
    left = c.in-Failed.ensures.input;
    offered = c.in-Failed.ensures.offered;
  },
  refl,
)

pub returns-in-End-clause-link : goal.returns-in-End-clause-link
returns-in-End-clause-link g c = record {
  later = c.in-End.ensures.cause.later;
  cause = λ failed. absurd (c.ending_of.ensures.link (same-ending (NotedClient × ℕ × Bool) c.ending_of.result (Ended LinkFault) failed));
}

pub returns-in-End-clause-sink : goal.returns-in-End-clause-sink
returns-in-End-clause-sink g c = record {
  later = le_same (g.K.Sink.faults c.args.out.now);
  cause = λ failed. absurd (c.ending_of.ensures.sink (same-ending (NotedClient × ℕ × Bool) c.ending_of.result WriteFault failed));
}

pub returns-in-Failed-clause-link : goal.returns-in-Failed-clause-link
returns-in-Failed-clause-link g c = record { later = c.in-Failed.ensures.cause.later; cause = λ failed. c.in-Failed.ensures.cause.cause refl }
