use Rattle.std.proofs.Common.{◌≡◌, ◌≤◌, take}
use Rattle.cs_io.specs.Told.{Stays}
use Rattle.cs_io.specs.Spawner.{EndsThese}
use Rattle.cs_spawn.proofs.children.end_all.Given as goal

abbrev pub invariant-loop-child : goal.invariant-loop-child
invariant-loop-child g l = record {
  ended : EndsThese (take l.child-index l.children) (g.P.Spawner.told l.initial.spawner).ended (g.P.Spawner.told l.spawner).ended;
  started : Stays (g.P.Spawner.told l.initial.spawner).started (g.P.Spawner.told l.spawner).started;
  children : (g.P.Spawner.told l.spawner).children ≡ (g.P.Spawner.told l.initial.spawner).children;
  unstarted : (g.P.Spawner.told l.spawner).unstarted ≡ (g.P.Spawner.told l.initial.spawner).unstarted;
  statuses : Stays (g.P.Spawner.told l.initial.spawner).statuses (g.P.Spawner.told l.spawner).statuses;
  faults : g.P.Spawner.faults l.initial.spawner ≤ g.P.Spawner.faults l.spawner;
}
