use Rattle.cs_ledger.specs.ShardWorld.{sessions_of}
use Rattle.cs_ledger.proofs.Alone.{one_alone}
use Rattle.cs_ledger.proofs.one_shard.one_vote.Goals as goal

pub returns : goal.returns
returns c rules shard entries unique x k v w e f = one_alone rules shard (sessions_of entries) unique x k v w entries (λ z i. i) e f
