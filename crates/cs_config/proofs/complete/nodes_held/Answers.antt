use Rattle.std.proofs.Common.{◌≡◌, false, sym, arith}
use Rattle.std.specs.List.{list_all}
use Rattle.cs_base.specs.NodeId.{members_below}
use Rattle.cs_config.specs.Complete.{is_held}
use Rattle.cs_config.proofs.Counting.{nodes_none}
use Rattle.cs_config.proofs.complete.nodes_held.Goals as goal

pub returns-then-not-members_held : goal.returns-then-not-members_held
returns-then-not-members_held c =
    let none : list_all (is_held c.args.me c.args.list.now) (members_below c.loop-shard.shard c.args.members) ≡ false = cc in
    sym (nodes_none (is_held c.args.me c.args.list.now) c.args.members c.loop-shard.shard c.args.shards (omega arith) none)
