use Rattle.std.proofs.Common.{subst, sym, ap, ◌∙◌}
use Rattle.std.specs.Prelude.{IfSome}
use Rattle.std.specs.List.{AllByRecursion}
use Rattle.cs_tx_types.specs.Session.{SessionFits, DummyFits}
use Rattle.cs_client.specs.Dummies.{dummies_for}
use Rattle.cs_client.specs.Seen.{dummies_kept}
use Rattle.cs_client.proofs.Fitting.{dummies-fit}
use Rattle.cs_client.proofs.phases.provided.Goals as goal

pub submission_of-requires : goal.submission_of-requires
submission_of-requires c =
    let e = c.args.errand.now in
    let dummy = dummies_kept e c.args.beliefs.now in
    subst SessionFits (sym c.with_dummies-session.ensures)
    (dummies-fit e.config dummy c.args.wanted.session c.in-Some.dummies c.requires.fits c.requires.some
    (ap (dummies_for dummy) (sym c.requires.shards_are) ∙ (ap (dummies_for dummy) (sym c.as_slice.ensures) ∙ (sym c.in_ok-dummies.ensures.found ∙ c.in-Some.is)))
    (subst (λ o. IfSome o (AllByRecursion DummyFits)) c.in-Some.is c.in_ok-dummies.ensures.fit))
