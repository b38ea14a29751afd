use Rattle.cs_wire.proofs.Named.{members-next}
use Rattle.cs_wire.proofs.names.add_members.Goals as goal

pub loop-index-preserved : goal.loop-index-preserved
loop-index-preserved c = members-next c.args.names.now c.loop-index.names c.push.new.self c.args.shard c.loop-index.index c.loop-index.invariant c.in_ok-push.ensures.ok
