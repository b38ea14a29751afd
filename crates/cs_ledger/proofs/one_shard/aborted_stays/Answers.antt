use Rattle.std.proofs.Common.{◌++◌}
use Rattle.cs_ledger.specs.ShardWorld.{sessions_of}
use Rattle.cs_ledger.proofs.Alone.{lost_alone}
use Rattle.cs_ledger.proofs.one_shard.aborted_stays.Goals as goal

pub returns : goal.returns
returns c rules shard earlier later unique x k key is h =
    lost_alone rules shard (sessions_of (later ++ earlier)) unique x k key is later earlier (λ z i. i) h
