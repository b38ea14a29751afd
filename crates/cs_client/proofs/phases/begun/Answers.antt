use Rattle.std.proofs.Common.{Ok, ◌++◌, sym, ap, ◌∙◌}
use Rattle.cs_client.specs.Sessions.{has_input}
use Rattle.cs_client.specs.Phases.{Asking, Wanting, wanting, after_method}
use Rattle.cs_client.specs.Sayings.{wants_in, outs_of_sayings}
use Rattle.cs_client.specs.Seen.{dummies_kept, Enters}
use Rattle.cs_client.proofs.Entering.{if-ok, entered}
use Rattle.cs_client.proofs.phases.begun.Goals as goal

pub provided-requires : goal.provided-requires
provided-requires c = record {
  fits = c.bare-session.ensures.fits;
  some = ap (λ x. has_input x.tx) c.bare-session.ensures.session ∙ (sym c.has_input.ensures ∙ c.if-not-has_input.false);
  shards_are = c.in_ok-shards.ensures;
}

pub returns-clause-enters : goal.returns-clause-enters
returns-clause-enters c =
    let e = c.args.errand.now in
    let dummy = dummies_kept e c.args.beliefs.now in
    let x = c.bare-session.result in
    let before = c.args.outs.now in
    let mid = c.want_dummies.new.outs in
    let after = c.provided.new.outs in
    if-ok c.provided.result
    (λ next. Enters e (Wanting x) (wanting e.config dummy x) next mid after)
    (λ next. Enters e Asking (after_method e dummy (Ok c.args.tx.traces)) next before after)
    (λ next h. entered e dummy c.args.tx x next before mid after (sym c.has_input.ensures ∙ c.if-not-has_input.false) c.bare-session.ensures.session
    (c.in_ok-want_dummies.ensures
    ∙ ap (λ shards. before ++ outs_of_sayings e.keys (wants_in e.config e.dummy shards)) (c.as_slice.ensures ∙ c.in_ok-shards.ensures))
    h)
    c.provided.ensures.enters
