use Rattle.std.proofs.Common.{◌≡◌, ◌++◌}
use Rattle.cs_base.specs.NodeId.{members_below}
use Rattle.cs_client.proofs.nodes.add_nodes.Given as goal

abbrev pub invariant-loop-index : goal.invariant-loop-index
invariant-loop-index l = l.names ≡ l.initial.names ++ members_below l.shard l.index
