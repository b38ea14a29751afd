use Rattle.std.proofs.Common.{◌≡◌, true}
use Rattle.std.specs.List.{list_all}
use Rattle.cs_wire.specs.AllNames.{nodes_below}
use Rattle.cs_config.specs.Complete.{is_held}
use Rattle.cs_config.proofs.complete.nodes_held.Given as goal

abbrev pub invariant-loop-shard : goal.invariant-loop-shard
invariant-loop-shard l = list_all (is_held l.me l.list) (nodes_below l.members l.shard) ≡ true
