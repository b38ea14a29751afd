use Rattle.std.proofs.Common.{◌≡◌, take}
use Rattle.cs_client.specs.Nodes.{nodes_of_shards}
use Rattle.cs_client.proofs.nodes.nodes_of.Given as goal

abbrev pub invariant-loop-shard : goal.invariant-loop-shard
invariant-loop-shard l = l.names ≡ nodes_of_shards l.config.f (take l.shard-index l.shards)
