use Rattle.std.proofs.Common.{subst, sym, ◌∙◌}
use Rattle.cs_serve.specs.Offering.{offers_in, AddsOffers}
use Rattle.cs_serve.proofs.attending.say.Goals as goal

pub returns-in-Open-clause-says : goal.returns-in-Open-clause-says
returns-in-Open-clause-says g c = λ e inputs stands. (
  stands,
  sym (c.known.ensures e inputs stands) ∙ c.in-Open.is,
  subst (λ outs. AddsOffers (offers_in outs) (g.L.Link.told c.args.link.now).offered (g.L.Link.told c.offer.new.link).offered) c.as_slice.ensures c.in-Ok.ensures.all,
)

pub returns-in_default-known-clause-says : goal.returns-in_default-known-clause-says
returns-in_default-known-clause-says g c = λ e inputs stands. (
  sym (c.known.ensures e inputs stands),
  c.in_default-known.not-Open,
  subst (λ outs. AddsOffers (offers_in outs) (g.L.Link.told c.args.link.now).offered (g.L.Link.told c.offer.new.link).offered) c.as_slice.ensures c.in-Ok.ensures.all,
)

pub returns-in_default-known-clause-only : goal.returns-in_default-known-clause-only
returns-in_default-known-clause-only g c = λ failed. absurd cc
