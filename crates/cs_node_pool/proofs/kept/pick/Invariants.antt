use Rattle.std.proofs.Common.{take}
use Rattle.cs_node_pool.specs.Seats.{IsPicked, waits, is_due}
use Rattle.cs_node_pool.proofs.kept.pick.Given as goal

abbrev pub invariant-loop-index : goal.invariant-loop-index
invariant-loop-index l = record {
  waiting : IsPicked waits l.waiting (take l.index l.seats.entries);
  ready : IsPicked is_due l.ready (take l.index l.seats.entries);
}
