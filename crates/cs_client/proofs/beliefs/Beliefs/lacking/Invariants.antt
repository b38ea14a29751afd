use Rattle.std.proofs.Common.{◌≡◌, take}
use Rattle.std.specs.Prelude.{filter}
use Rattle.cs_client.specs.Waits.{lacks_kept}
use Rattle.cs_client.proofs.beliefs.Beliefs.lacking.Given as goal

abbrev pub invariant-loop-shard : goal.invariant-loop-shard
invariant-loop-shard l = l.lacking ≡ filter (lacks_kept l.f l.self.serials) (take l.shard-index l.shards)
