use Rattle.cs_node.proofs.Naming.{others-more}
use Rattle.cs_node.proofs.members.others.Goals as goal

pub loop-shard-preserved : goal.loop-shard-preserved
loop-shard-preserved c = others-more c.args.config.now.f c.args.me c.args.shards.now c.loop-shard.shard-index _ c.loop-shard.names c.add_members.new.names c.loop-shard-test.true c.loop-shard.invariant c.in_ok-add_members.ensures
