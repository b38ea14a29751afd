use Rattle.std.proofs.Common.{ap, subst, ◌∙◌}
use Rattle.cs_client.specs.Seen.{Client, PhaseFits, known_kept}
use Rattle.cs_client.proofs.Knows.{known-so}
use Rattle.cs_client.proofs.clients.ClientCore.known.Goals as goal

pub returns : goal.returns
returns c = λ e inputs stands.
    let now = c.args.self.now.phase in
    let fits = subst (λ (s : Client). PhaseFits s.errand.config s.phase) c.self.view_is c.self.invariant.phase_fits in
    c.known_in.ensures
    ∙ (ap (λ (s : Client). known_kept s.errand.config.f s.phase) c.self.view_is
    ∙ (ap (λ held. known_kept held.config.f now) stands.errand_is
    ∙ known-so e inputs now (subst (λ held. PhaseFits held.config now) stands.errand_is fits) stands.keeps.phase_is stands.keeps.heard))
