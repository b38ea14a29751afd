use Rattle.std.proofs.Common.{Bool, Err, subst}
use Rattle.cs_io.specs.Outside.{beside}
use Rattle.cs_client.specs.declared.error.ClientError.{ClientError}
use Rattle.cs_client.specs.Inputs.{client_input}
use Rattle.cs_client.specs.Standing.{Steps}
use Rattle.std.proofs.Common.{◌∷◌, ap, ◌∙◌}
use Rattle.std.specs.Prelude.{is_none, ◌&&◌}
use Rattle.cs_client.specs.Phases.{submitted}
use Rattle.cs_tries.specs.Tries.{with_input, phase_in_try, line_before, line_behind}
use Rattle.cs_serve.specs.Attending.{offers_at}
use Rattle.cs_serve.proofs.Giving.{Gives-nil}
use Rattle.cs_waits.specs.Standing.{NotedStandsFor}
use Rattle.cs_tries.proofs.TryRuns.{at-client, said-goes, none-given}
use Rattle.cs_tries.proofs.trying.answer.Goals as goal

pub returns-in-Ok-clause-goes : goal.returns-in-Ok-clause-goes
returns-in-Ok-clause-goes g c = λ t stands detailed left.
    let input = client_input c.args.input in
    let stepped = c.in-Ok.ensures t.errand t.details t.inputs stands in
    let now : NotedStandsFor t.errand t.details (input ∷ t.inputs) c.in-Ok.noted = record { client = stepped.steps.stands; notes = stepped.notes } in
    said-goes t input c.is_announcing-announcing.result c.in-Ok.outs
    (beside (g.L.Link.told c.args.link.now) (g.K.Sink.written c.args.out.now))
    (beside (g.L.Link.told c.say.new.link) (g.K.Sink.written c.say.new.out)) c.say.result
    (c.is_announcing-announcing.ensures t (at-client t c.client.result.now c.args.noted c.client.ensures stands) ∙ ap (λ (b : Bool). b && is_none (submitted (phase_in_try t))) detailed) stepped.steps.says
    (c.say.ensures.goes (with_input input t) now detailed left) (c.say.ensures.given (with_input input t) now detailed left)

pub returns-in-Err-Refused-clause-goes : goal.returns-in-Err-Refused-clause-goes
returns-in-Err-Refused-clause-goes g c = λ t stands detailed left.
    rw c.in-Err-Refused.field-0-is (
      subst (λ (error : ClientError). Steps t.errand t.inputs (client_input c.args.input) (Err error)) c.in-Err-Refused.field-0-is (c.in-Err-Refused.ensures t.errand t.details t.inputs stands),
      Gives-nil (beside (g.L.Link.told c.args.link.now) (g.K.Sink.written c.args.out.now)),
    )

pub returns-in-Err-Memory-clause-goes : goal.returns-in-Err-Memory-clause-goes
returns-in-Err-Memory-clause-goes g c = λ t stands detailed left.
    let input = client_input c.args.input in
    (tt, none-given (offers_at t.errand input t.inputs) (line_before input t) (line_behind input t) (beside (g.L.Link.told c.args.link.now) (g.K.Sink.written c.args.out.now)))
