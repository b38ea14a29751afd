use Rattle.std.proofs.Common.{Err, subst}
use Rattle.cs_client.specs.declared.error.ClientError.{ClientError}
use Rattle.cs_client.specs.Inputs.{client_input}
use Rattle.cs_client.specs.Standing.{Steps}
use Rattle.cs_io.specs.laws.Told.{stays-same}
use Rattle.cs_serve.proofs.Runs.{goes-said, none-offered}
use Rattle.cs_serve.proofs.attending.answer.Goals as goal

pub returns-in-Ok-clause-goes : goal.returns-in-Ok-clause-goes
returns-in-Ok-clause-goes g c = λ e past stands.
    let input = client_input c.args.input in
    let stepped = c.in-Ok.ensures e past stands in
    goes-said e past input c.in-Ok.outs (g.L.Link.told c.args.link.now).offered (g.L.Link.told c.say.new.link).offered c.say.result stepped.says (c.say.ensures.says e _ stepped.stands)

pub returns-in-Err-Refused-clause-goes : goal.returns-in-Err-Refused-clause-goes
returns-in-Err-Refused-clause-goes g c = λ e past stands. (
  subst (λ (error : ClientError). Steps e past (client_input c.args.input) (Err error)) c.in-Err-Refused.field-0-is (c.in-Err-Refused.ensures e past stands),
  stays-same (g.L.Link.told c.args.link.now).offered,
)

pub returns-in-Err-Memory-clause-goes : goal.returns-in-Err-Memory-clause-goes
returns-in-Err-Memory-clause-goes g c = λ e past stands. none-offered e past (client_input c.args.input) (g.L.Link.told c.args.link.now).offered
