use Rattle.std.proofs.Common.{Err, sym, subst}
use Rattle.cs_io.specs.Outside.{beside}
use Rattle.cs_io.specs.laws.Told.{stays-same}
use Rattle.cs_serve.specs.Offering.{offers_in, AddsOffers, AddsFront}
use Rattle.cs_tries.specs.declared.ending.TryEnding.{TryEnding}
use Rattle.cs_tries.specs.Tries.{phase_in_try, known_in_try, then_next, announcement, line_between}
use Rattle.cs_tries.specs.Trying.{GoesBehind, GivenBy}
use Rattle.cs_tries.proofs.TryRuns.{at-client, given-by, given-short, given-none, none-goes}
use Rattle.cs_tries.proofs.trying.say.Goals as goal

pub returns-clause-given : goal.returns-clause-given
returns-clause-given g c = λ t stands detailed left.
    given-by (offers_in c.args.outs) (announcement c.args.announcing (phase_in_try t)) (line_between (known_in_try t) t) (g.L.Link.told c.args.link.now) (g.L.Link.told c.offer.new.link) (g.K.Sink.written c.args.out.now) (g.K.Sink.written c.announce.new.out) (g.K.Sink.written c.go_on.new.out) c.go_on.result
    (c.in_default.ensures.done t (at-client t c.client.result.now c.args.noted c.client.ensures stands))
    (subst (λ outs. AddsOffers (offers_in outs) (g.L.Link.told c.args.link.now).offered (g.L.Link.told c.offer.new.link).offered) c.as_slice.ensures c.in-Ok.ensures.all)
    (c.go_on.ensures.printed t stands detailed left)

pub returns-in_default-offer-clause-given : goal.returns-in_default-offer-clause-given
returns-in_default-offer-clause-given g c = λ t stands detailed left.
    given-short (offers_in c.args.outs) (announcement c.args.announcing (phase_in_try t)) (line_between (known_in_try t) t) (g.L.Link.told c.args.link.now) (g.L.Link.told c.offer.new.link) (g.K.Sink.written c.args.out.now) (g.K.Sink.written c.announce.new.out)
    (c.in_default.ensures.done t (at-client t c.client.result.now c.args.noted c.client.ensures stands))
    (subst (λ outs. AddsFront (offers_in outs) (g.L.Link.told c.args.link.now).offered (g.L.Link.told c.offer.new.link).offered) c.as_slice.ensures c.in_default-offer.ensures.front)

pub returns-in-Err-clause-given : goal.returns-in-Err-clause-given
returns-in-Err-clause-given g c = λ t stands detailed left.
    let link = g.L.Link.told c.args.link.now in
    subst
    (λ (ending : TryEnding). GivenBy (offers_in c.args.outs) (announcement c.args.announcing (phase_in_try t)) (line_between (known_in_try t) t) (beside link (g.K.Sink.written c.args.out.now)) (beside link (g.K.Sink.written c.announce.new.out)) (Err ending))
    (sym c.unwritten.ensures)
    (given-none (offers_in c.args.outs) (announcement c.args.announcing (phase_in_try t)) (line_between (known_in_try t) t) link (g.K.Sink.written c.args.out.now) (g.K.Sink.written c.announce.new.out) c.in-Err.error (c.in-Err.ensures.part t (at-client t c.client.result.now c.args.noted c.client.ensures stands)))

pub returns-in-Err-clause-goes : goal.returns-in-Err-clause-goes
returns-in-Err-clause-goes g c = λ t stands detailed left.
    subst (λ (ending : TryEnding). GoesBehind (then_next (known_in_try t) t) (Err ending)) (sym c.unwritten.ensures) (none-goes (then_next (known_in_try t) t) c.in-Err.error)

pub returns-in-Err-clause-left : goal.returns-in-Err-clause-left
returns-in-Err-clause-left g c = stays-same (g.L.Link.told c.args.link.now).left

pub returns-in-Err-clause-bound : goal.returns-in-Err-clause-bound
returns-in-Err-clause-bound g c = stays-same (g.L.Link.told c.args.link.now).bound

pub returns-in-Err-clause-placed : goal.returns-in-Err-clause-placed
returns-in-Err-clause-placed g c = stays-same (g.L.Link.told c.args.link.now).placed
