use Rattle.std.proofs.Common.{◌≡◌, ◌+◌, ◌≤◌, take}
use Rattle.cs_io.specs.Outside.{beside}
use Rattle.cs_spawn.specs.Deeds.{call_deeds}
use Rattle.cs_spawn.proofs.Going.{Done}
use Rattle.cs_spawn.proofs.running.run_calls.Given as goal

abbrev pub invariant-loop-number : goal.invariant-loop-number
invariant-loop-number g l = record {
  does : Done (call_deeds l.plan 0 (g.P.Spawner.told l.initial.spawner).children (take l.number l.plan.calls)) l.initial.left.items l.left.items
      (beside (g.P.Spawner.told l.initial.spawner) (g.K.Sink.written l.initial.out))
      (beside (g.P.Spawner.told l.spawner) (g.K.Sink.written l.out));
  children : (g.P.Spawner.told l.spawner).children ≡ (g.P.Spawner.told l.initial.spawner).children + l.number;
  spawner : g.P.Spawner.faults l.initial.spawner ≤ g.P.Spawner.faults l.spawner;
  sink : g.K.Sink.faults l.initial.out ≤ g.K.Sink.faults l.out;
}
