use Rattle.std.proofs.Common.{[], ap, ◌∙◌}
use Rattle.std.specs.Prelude.{is_some}
use Rattle.cs_client.specs.Standing.{errand_again}
use Rattle.cs_waits.specs.Standing.{notes_if}
use Rattle.cs_waits.proofs.Told.{has-notes}
use Rattle.cs_waits.proofs.noted.NotedClient.again.Goals as goal

pub returns : goal.returns
returns c = λ e details inputs stands.
    let begun = c.in_ok-client.ensures e inputs stands.client in
    record {
      client = begun;
      notes =
          c.in_ok-notes.ensures (errand_again e) begun
          ∙ ap (λ d. notes_if d (errand_again e) []) (c.is_some.ensures ∙ (ap is_some stands.notes ∙ has-notes details e inputs));
    }
