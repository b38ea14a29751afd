use Rattle.std.proofs.Common.{[], refl, sym, ap, subst, ◌∙◌}
use Rattle.cs_client.specs.declared.errand.Errand.{Errand}
use Rattle.cs_client.specs.Kept.{unheard, told_by_inputs, ToldFits, ToldMarked}
use Rattle.cs_client.specs.Seen.{Client}
use Rattle.cs_client.specs.Standing.{errand_again}
use Rattle.cs_client.proofs.Beginning.{nothing-told, unheard-fits, unheard-marked}
use Rattle.cs_client.proofs.clients.ClientCore.again.Goals as goal

pub invariant_of-result : goal.invariant_of-result
invariant_of-result c =
    let config = c.self.inside.errand.config in
    let i = c.as_slice.result.now in
    let r = c.as_slice-2.result.now in
    record {
      told_fits = subst (ToldFits config) (sym c.in_ok-beliefs.ensures) (unheard-fits config c.self.inside.errand.dummy i r);
      told_marked = subst (ToldMarked config.f) (sym c.in_ok-beliefs.ensures) (unheard-marked config c.self.inside.errand.dummy i r);
      phase_fits = tt;
    }

pub returns : goal.returns
returns c = λ e inputs stands.
    let config = c.self.inside.errand.config in
    let same = ap (λ (s : Client). s.errand) c.self.view_is ∙ stands.errand_is in
    record {
      errand_is = ap errand_again same;
      keeps = record {
        told_is =
            c.in_ok-beliefs.ensures
            ∙ (ap (λ names. unheard config c.self.inside.errand.dummy names c.as_slice-2.result.now) c.as_slice.ensures
            ∙ (ap (unheard config c.self.inside.errand.dummy c.self.inside.errand.call.inputs) c.as_slice-2.ensures
            ∙ sym (nothing-told (errand_again c.self.inside.errand))
            ∙ ap (λ (k : Errand). told_by_inputs k []) (ap errand_again same)));
        phase_is = refl;
        heard = tt;
      };
    }
