use Rattle.std.specs.Prelude.{IfSome}
use Rattle.std.proofs.Common.{Option, ap, sym, subst, ◌∙◌}
use Rattle.cs_tx_types.specs.declared.session.Session.{Session}
use Rattle.cs_tx_types.specs.Session.{SessionFits}
use Rattle.cs_client.specs.Phases.{submitted}
use Rattle.cs_client.specs.Seen.{Client, phase_seen}
use Rattle.cs_client.proofs.Knows.{submitted-fits}
use Rattle.cs_client.proofs.clients.ClientCore.session.Goals as goal

pub returns-clause-session : goal.returns-clause-session
returns-clause-session c = λ e inputs stands.
    c.submitted.ensures
    ∙ ap submitted (ap (λ (s : Client). phase_seen s.phase) c.self.view_is ∙ stands.keeps.phase_is)

pub returns-clause-fits : goal.returns-clause-fits
returns-clause-fits c =
    subst (λ (session : Option Session). IfSome session SessionFits) (sym c.submitted.ensures)
    (submitted-fits c.self.inside.errand.config c.self.inside.phase c.self.invariant.phase_fits)
