use Rattle.std.proofs.Common.{[], Option, Some, sym, ap, ◌∙◌}
use Rattle.cs_client.specs.declared.errand.Errand.{Errand}
use Rattle.cs_waits.specs.Notes.{Noted, nothing_noted}
use Rattle.cs_waits.specs.Standing.{notes_if}
use Rattle.cs_waits.proofs.Told.{nothing-so}
use Rattle.cs_waits.proofs.noted.notes_for.Goals as goal

pub returns-in_ok-notes : goal.returns-in_ok-notes
returns-in_ok-notes c = λ e stands.
    ap (λ (n : Noted). let o : Option Noted = Some n in o)
    (c.in_ok-notes.ensures
    ∙ (ap (λ config. nothing_noted config c.call.result.now) c.config.ensures
    ∙ (ap (nothing_noted c.args.client.now.errand.config) c.call.ensures
    ∙ (ap (λ (k : Errand). nothing_noted k.config k.call) stands.errand_is ∙ nothing-so e))))
    ∙ ap (λ d. notes_if d e []) (sym c.if-details.true)
