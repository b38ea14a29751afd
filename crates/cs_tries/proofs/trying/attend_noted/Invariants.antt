use Rattle.std.proofs.Common.{◌≡◌, ◌-◌, ◌^◌, ◌≤◌, []}
use Rattle.cs_io.specs.Told.{Stays}
use Rattle.cs_io.specs.Outside.{beside}
use Rattle.cs_client.specs.declared.errand.Errand.{Errand}
use Rattle.cs_client.specs.declared.known.Known.TheVariants as known
use Rattle.cs_client.specs.Knowing.{knows}
use Rattle.cs_waits.specs.Standing.{NotedStandsFor}
use Rattle.cs_tries.specs.Tries.{try_begun}
use Rattle.cs_tries.proofs.TryRuns.{TriesSoFar}
use Rattle.cs_tries.proofs.trying.attend_noted.Given as goal

abbrev pub invariant-loop-buf : goal.invariant-loop-buf
invariant-loop-buf g l = record {
  goes : (e : Errand) → NotedStandsFor e l.details [] l.fn.noted → knows e [] ≡ known.Open
      → TriesSoFar (try_begun l.details e l.fn.tries) l.until l.turns l.ticks (beside (g.L.Link.told l.initial.link) (g.K.Sink.written l.initial.out)) (beside (g.L.Link.told l.link) (g.K.Sink.written l.out)) (l.noted, l.tries);
  few : l.ticks ≤ l.turns;
  bound : Stays (g.L.Link.told l.initial.link).bound (g.L.Link.told l.link).bound;
  placed : Stays (g.L.Link.told l.initial.link).placed (g.L.Link.told l.link).placed;
  link : g.L.Link.faults l.initial.link ≤ g.L.Link.faults l.link;
  sink : g.K.Sink.faults l.initial.out ≤ g.K.Sink.faults l.out;
}

abbrev pub decreases-loop-buf : goal.decreases-loop-buf
decreases-loop-buf g l = 2 ^ 64 - 1 - l.turns
