use Rattle.std.proofs.Common.{◌+◌}
use Rattle.std.specs.Prelude.{◌*◌}
use Rattle.cs_wire.proofs.Named.{nodes-next}
use Rattle.cs_wire.proofs.names.all_nodes.Goals as goal

pub loop-shard-preserved : goal.loop-shard-preserved
loop-shard-preserved c = nodes-next c.loop-shard.names c.add_members.new.names (3 * c.args.config.now.f + 1) c.loop-shard.shard c.loop-shard.invariant c.in_ok-add_members.ensures
