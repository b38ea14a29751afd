use Rattle.std.proofs.Common.{◌≡◌, ◌-◌, ◌^◌, ◌≤◌, []}
use Rattle.cs_io.specs.Told.{Stays}
use Rattle.cs_client.specs.declared.errand.Errand.{Errand}
use Rattle.cs_client.specs.declared.known.Known.TheVariants as known
use Rattle.cs_client.specs.Knowing.{knows}
use Rattle.cs_client.specs.Standing.{ClientStandsFor}
use Rattle.cs_serve.proofs.Runs.{SoFar}
use Rattle.cs_serve.proofs.attending.attend.Given as goal

abbrev pub invariant-loop-buf : goal.invariant-loop-buf
invariant-loop-buf g l = record {
  goes : (e : Errand) → ClientStandsFor e [] l.fn.client → knows e [] ≡ known.Open
      → SoFar e l.until l.turns l.ticks (g.L.Link.told l.initial.link) (g.L.Link.told l.link) l.client;
  few : l.ticks ≤ l.turns;
  bound : Stays (g.L.Link.told l.initial.link).bound (g.L.Link.told l.link).bound;
  placed : Stays (g.L.Link.told l.initial.link).placed (g.L.Link.told l.link).placed;
  faults : g.L.Link.faults l.initial.link ≤ g.L.Link.faults l.link;
}

abbrev pub decreases-loop-buf : goal.decreases-loop-buf
decreases-loop-buf g l = 2 ^ 64 - 1 - l.turns
