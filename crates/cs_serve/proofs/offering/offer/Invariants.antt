use Rattle.std.proofs.Common.{◌≡◌, ◌≤◌, take}
use Rattle.cs_io.specs.Told.{Stays}
use Rattle.cs_serve.specs.Offering.{AddsOffers, offers_in}
use Rattle.cs_serve.proofs.offering.offer.Given as goal

abbrev pub invariant-loop-out : goal.invariant-loop-out
invariant-loop-out g l = record {
  offered : AddsOffers (offers_in (take l.out-index l.outs)) (g.L.Link.told l.initial.link).offered (g.L.Link.told l.link).offered;
  left : Stays (g.L.Link.told l.initial.link).left (g.L.Link.told l.link).left;
  bound : Stays (g.L.Link.told l.initial.link).bound (g.L.Link.told l.link).bound;
  placed : Stays (g.L.Link.told l.initial.link).placed (g.L.Link.told l.link).placed;
  missed : (g.L.Link.told l.link).missed ≡ (g.L.Link.told l.initial.link).missed;
  faults : g.L.Link.faults l.initial.link ≤ g.L.Link.faults l.link;
}
