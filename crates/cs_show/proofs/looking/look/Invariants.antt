use Rattle.std.proofs.Common.{◌-◌, ◌^◌, ◌≤◌, []}
use Rattle.cs_io.specs.Told.{Stays}
use Rattle.cs_show.specs.declared.lookup.Lookup.{Lookup}
use Rattle.cs_show.specs.Standing.{LookerStandsFor}
use Rattle.cs_show.proofs.Runs.{SoFar}
use Rattle.cs_show.proofs.looking.look.Given as goal

abbrev pub invariant-loop-buf : goal.invariant-loop-buf
invariant-loop-buf g l = record {
  goes : (k : Lookup) → LookerStandsFor k [] l.fn.looker
      → SoFar k l.until l.turns l.ticks (g.L.Link.told l.initial.link) (g.L.Link.told l.link) l.looker;
  few : l.ticks ≤ l.turns;
  bound : Stays (g.L.Link.told l.initial.link).bound (g.L.Link.told l.link).bound;
  placed : Stays (g.L.Link.told l.initial.link).placed (g.L.Link.told l.link).placed;
  faults : g.L.Link.faults l.initial.link ≤ g.L.Link.faults l.link;
}

abbrev pub decreases-loop-buf : goal.decreases-loop-buf
decreases-loop-buf g l = 2 ^ 64 - 1 - l.turns
