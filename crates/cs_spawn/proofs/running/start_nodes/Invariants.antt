use Rattle.std.proofs.Common.{◌≡◌, ℕ, ◌+◌, ◌≤◌, List, Option, take}
use Rattle.cs_io.specs.Outside.{beside}
use Rattle.cs_spawn.specs.Deeds.{numbered, node_starts}
use Rattle.cs_spawn.proofs.Going.{Done}
use Rattle.cs_spawn.proofs.running.start_nodes.Given as goal

abbrev pub invariant-loop-me : goal.invariant-loop-me
invariant-loop-me g l = record {
  does : (written : Option (List ℕ)) → Done (node_starts l.plan (take l.me-index l.nodes)) l.initial.left.items l.left.items
      (beside (g.P.Spawner.told l.initial.spawner) written)
      (beside (g.P.Spawner.told l.spawner) written);
  children : (g.P.Spawner.told l.spawner).children ≡ (g.P.Spawner.told l.initial.spawner).children + l.me-index;
  running : l.running ≡ numbered (g.P.Spawner.told l.initial.spawner).children (take l.me-index l.nodes);
  faults : g.P.Spawner.faults l.initial.spawner ≤ g.P.Spawner.faults l.spawner;
}
