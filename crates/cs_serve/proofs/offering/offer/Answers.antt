use Rattle.std.proofs.Common.{◌≡◌, ◌++◌, take, drop, sym, ap, ◌∙◌}
use Rattle.std.proofs.lemmas.List.{take-append-drop, map-append}
use Rattle.cs_io.specs.Link.{Offers}
use Rattle.cs_wire.specs.declared.input.Out.{Out}
use Rattle.cs_serve.specs.Offering.{offers_in}
use Rattle.cs_io.specs.laws.Told.{changes-before}
use Rattle.cs_serve.proofs.offering.offer.Goals as goal

pub returns-in-Memory-clause-front : goal.returns-in-Memory-clause-front
returns-in-Memory-clause-front g c =
    let outs = c.args.outs.now in
    let i = c.loop-out.out-index in (
      offers_in (take i outs),
      offers_in (drop i outs),
      ap offers_in (sym (take-append-drop i outs)) ∙ map-append (λ (out : Out). (out.to, out.bytes)) (take i outs) (drop i outs),
      changes-before (λ (before now : Offers). now ≡ before ++ offers_in (take i outs)) (g.L.Link.told c.args.link.now).offered (g.L.Link.told c.loop-out.link).offered (g.L.Link.told c.send.new.self).offered c.loop-out.invariant.offered c.in-Memory.ensures.datagram,
    )
