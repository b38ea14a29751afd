use Rattle.std.proofs.Common.{Option, ap, ◌∙◌}
use Rattle.std.specs.Prelude.{option_map}
use Rattle.std.proofs.lemmas.Result.{err_from_is_err_and}
use Rattle.cs_client.specs.declared.errand.Errand.{Errand}
use Rattle.cs_client.specs.Inputs.{heard, client_input}
use Rattle.cs_waits.specs.Notes.{Noted, after_said, after_asking}
use Rattle.cs_waits.proofs.Told.{notes-so}
use Rattle.cs_waits.proofs.noted.NotedClient.step.Goals as goal

pub returns : goal.returns
returns c = λ e details past stands.
    let input = client_input c.args.input in
    let outs = c.as_slice.result.now in
    let stepped = c.in_ok-client.ensures e past stands.client in
    record {
      steps = stepped;
      notes =
          c.in_ok-ask.ensures
          ∙ (ap (λ (o : Option Noted). option_map (after_asking outs) o)
          (c.in_ok-hear.ensures
          ∙ (ap (λ (k : Errand). option_map (after_said k.config (heard k.keys input)) c.args.self.notes) stands.client.errand_is
          ∙ ap (λ (o : Option Noted). option_map (after_said e.config (heard e.keys input)) o) stands.notes))
          ∙ notes-so e input past details outs (c.as_slice.ensures ∙ stepped.says));
    }

pub returns-in_err-client : goal.returns-in_err-client
returns-in_err-client c = λ e details past stands.
    let p = err_from_is_err_and c.from_residual-in_err-client.result c.from_residual-in_err-client.ensures.1 in
    rw (p.1, p.2) (c.in_err-client.ensures e past stands.client)

pub returns-in_err-ask : goal.returns-in_err-ask
returns-in_err-ask c = λ e details past stands.
    let p = err_from_is_err_and c.from_residual-in_err-ask.result c.from_residual-in_err-ask.ensures.1 in
    rw (p.1, p.2) tt
