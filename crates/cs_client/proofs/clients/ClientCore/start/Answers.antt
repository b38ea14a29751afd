use Rattle.std.proofs.Common.{refl, sym, ap, subst, ◌∙◌}
use Rattle.cs_client.specs.Kept.{unheard, ToldFits, ToldMarked}
use Rattle.cs_client.specs.Standing.{errand_with}
use Rattle.cs_client.proofs.Beginning.{nothing-told, unheard-fits, unheard-marked}
use Rattle.cs_client.proofs.Moving.{first-heard}
use Rattle.cs_client.proofs.clients.ClientCore.start.Goals as goal

pub invariant_of-result : goal.invariant_of-result
invariant_of-result c =
    let config = c.args.site.config in
    let i = c.as_slice.result.now in
    let r = c.as_slice-2.result.now in
    record {
      told_fits = subst (ToldFits config) (sym c.in_ok-beliefs.ensures) (unheard-fits config c.args.dummy i r);
      told_marked = subst (ToldMarked config.f) (sym c.in_ok-beliefs.ensures) (unheard-marked config c.args.dummy i r);
      phase_fits = c.in_ok-phase.ensures.fits;
    }

pub returns : goal.returns
returns c =
    let config = c.args.site.config in
    let e = errand_with c.args.site c.args.keys c.args.book c.args.call c.args.session c.args.dummy in
    record {
      errand_is = refl;
      keeps = record {
        told_is =
            c.in_ok-beliefs.ensures
            ∙ (ap (λ names. unheard config c.args.dummy names c.as_slice-2.result.now) c.as_slice.ensures
            ∙ (ap (unheard config c.args.dummy c.args.call.inputs) c.as_slice-2.ensures
            ∙ sym (nothing-told e)));
        phase_is = c.in_ok-phase.ensures.phase;
        heard = first-heard e c.in_ok-phase.phase c.in_ok-phase.ensures.fresh;
      };
    }
