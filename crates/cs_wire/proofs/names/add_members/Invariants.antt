use Rattle.std.proofs.Common.{◌≡◌, ◌++◌}
use Rattle.cs_base.specs.NodeId.{members_below}
use Rattle.cs_wire.proofs.names.add_members.Given as goal

abbrev pub invariant-loop-index : goal.invariant-loop-index
invariant-loop-index l = l.names ≡ l.initial.names ++ members_below l.shard l.index
