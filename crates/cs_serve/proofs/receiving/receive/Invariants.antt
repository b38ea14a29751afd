use Rattle.std.proofs.Common.{◌≡◌, ◌+◌, ◌-◌, ◌^◌, ◌<◌, ◌≤◌}
use Rattle.std.specs.Prelude.{min}
use Rattle.cs_io.specs.Told.{Stays}
use Rattle.cs_serve.proofs.receiving.receive.Given as goal

abbrev pub invariant-loop-missed : goal.invariant-loop-missed
invariant-loop-missed g l = record {
  left : Stays (g.L.Link.told l.initial.link).left (g.L.Link.told l.link).left;
  bound : Stays (g.L.Link.told l.initial.link).bound (g.L.Link.told l.link).bound;
  placed : Stays (g.L.Link.told l.initial.link).placed (g.L.Link.told l.link).placed;
  offered : Stays (g.L.Link.told l.initial.link).offered (g.L.Link.told l.link).offered;
  few : l.missed ≤ 64;
  none : l.missed ≡ 0 → (g.L.Link.told l.link).missed ≡ (g.L.Link.told l.initial.link).missed;
  some : 0 < l.missed → (g.L.Link.told l.link).missed ≡ min ((g.L.Link.told l.initial.link).missed + l.missed) (2 ^ 64 - 1);
  later : g.L.Link.faults l.initial.link ≤ g.L.Link.faults l.link;
  rose : 0 < l.missed → min (g.L.Link.faults l.initial.link + 1) (2 ^ 64 - 1) ≤ g.L.Link.faults l.link;
}

abbrev pub decreases-loop-missed : goal.decreases-loop-missed
decreases-loop-missed g l = 64 - l.missed
