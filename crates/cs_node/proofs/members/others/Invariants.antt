use Rattle.std.proofs.Common.{◌≡◌, take}
use Rattle.cs_node_rules.specs.Members.{others}
use Rattle.cs_node.proofs.members.others.Given as goal

abbrev pub invariant-loop-shard : goal.invariant-loop-shard
invariant-loop-shard l = l.names ≡ others l.config.f l.me (take l.shard-index l.shards)
