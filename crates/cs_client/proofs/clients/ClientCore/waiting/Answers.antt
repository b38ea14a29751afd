use Rattle.std.proofs.Common.{◌≡◌, ap, subst, ◌∙◌}
use Rattle.cs_client.specs.Seen.{Client, PhaseFits}
use Rattle.cs_client.specs.Waits.{waiting, waiting_kept}
use Rattle.cs_client.proofs.Entering.{if-ok}
use Rattle.cs_client.proofs.Waited.{waiting-so}
use Rattle.cs_client.proofs.clients.ClientCore.waiting.Goals as goal

pub returns : goal.returns
returns c = λ e inputs stands.
    let told = c.args.self.now.beliefs in
    let now = c.args.self.now.phase in
    let inside = c.self.inside in
    let fits = subst (λ (s : Client). PhaseFits s.errand.config s.phase) c.self.view_is c.self.invariant.phase_fits in
    let is =
    ap (λ (s : Client). waiting_kept s.errand.config.f s.beliefs s.phase) c.self.view_is
    ∙ (ap (λ held. waiting_kept held.config.f told now) stands.errand_is
    ∙ waiting-so e inputs told now (subst (λ held. PhaseFits held.config now) stands.errand_is fits) stands.keeps)
    in
    if-ok c.waiting_in.result (λ so. so ≡ waiting_kept inside.errand.config.f inside.beliefs inside.phase) (λ so. so ≡ waiting e inputs) (λ so h. h ∙ is) c.waiting_in.ensures
