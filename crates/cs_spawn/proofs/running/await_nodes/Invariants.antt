use Rattle.std.proofs.Common.{◌≡◌, ◌≤◌, take}
use Rattle.cs_io.specs.Outside.{beside}
use Rattle.cs_spawn.specs.Deeds.{node_waits}
use Rattle.cs_spawn.proofs.Going.{Done}
use Rattle.cs_spawn.proofs.running.await_nodes.Given as goal

abbrev pub invariant-loop-node : goal.invariant-loop-node
invariant-loop-node g l = record {
  does : Done (node_waits (take l.node-index l.running)) l.initial.left.items l.left.items
      (beside (g.P.Spawner.told l.initial.spawner) (g.K.Sink.written l.initial.out))
      (beside (g.P.Spawner.told l.spawner) (g.K.Sink.written l.out));
  children : (g.P.Spawner.told l.spawner).children ≡ (g.P.Spawner.told l.initial.spawner).children;
  spawner : g.P.Spawner.faults l.initial.spawner ≤ g.P.Spawner.faults l.spawner;
  sink : g.K.Sink.faults l.initial.out ≤ g.K.Sink.faults l.out;
}
