use Rattle.std.proofs.Common.{◌≡◌, true}
use Rattle.std.specs.List.{list_all}
use Rattle.cs_base.specs.NodeId.{members_below}
use Rattle.cs_config.specs.Complete.{is_held}
use Rattle.cs_config.proofs.complete.members_held.Given as goal

abbrev pub invariant-loop-index : goal.invariant-loop-index
invariant-loop-index l = list_all (is_held l.me l.list) (members_below l.shard l.index) ≡ true
