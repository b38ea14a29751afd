use Rattle.std.proofs.Common.{◌≡◌}
use Rattle.cs_wire.specs.AllNames.{nodes_below}
use Rattle.cs_wire.proofs.names.all_nodes.Given as goal

abbrev pub invariant-loop-shard : goal.invariant-loop-shard
invariant-loop-shard l = l.names ≡ nodes_below l.members l.shard
