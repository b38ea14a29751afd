use Rattle.std.proofs.Common.{Some, sym, ap, ◌∙◌}
use Rattle.cs_client.specs.declared.errand.Errand.{Errand}
use Rattle.cs_waits.proofs.Told.{lines-so, no-lines}
use Rattle.cs_waits.proofs.noted.NotedClient.open_text.Goals as goal

pub returns-in_ok-text-in-Some : goal.returns-in_ok-text-in-Some
returns-in_ok-text-in-Some c = λ e details inputs stands.
    ap Some (c.from_string.ensures ∙ c.in_ok-text-in-Some.ensures)
    ∙ lines-so details e inputs c.config.result.now.f c.in-Some.notes c.in_ok-waits-in-Some.waits (sym stands.notes ∙ c.in-Some.is)
    (c.in_ok-waits-in-Some.ensures e inputs stands.client)
    (ap (λ config. config.f) c.config.ensures ∙ ap (λ (k : Errand). k.config.f) stands.client.errand_is)

pub returns-in-None : goal.returns-in-None
returns-in-None c = λ e details inputs stands. sym (no-lines details e inputs (sym stands.notes ∙ c.in-None.is))
