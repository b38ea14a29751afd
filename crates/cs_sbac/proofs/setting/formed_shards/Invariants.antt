use Rattle.std.proofs.Common.{◌≡◌}
use Rattle.cs_tx.specs.Uses.{concerned_below}
use Rattle.cs_sbac.proofs.setting.formed_shards.Given as goal

abbrev pub invariant-loop-shard : goal.invariant-loop-shard
invariant-loop-shard l = l.shards.items ≡ concerned_below l.config l.session l.shard
