use Rattle.std.proofs.Common.{◌≡◌, [], replicate}
use Rattle.cs_client.proofs.beliefs.no_serials.Given as goal

abbrev pub invariant-loop-shard : goal.invariant-loop-shard
invariant-loop-shard l = l.all.items ≡ replicate l._shard (replicate l.members [])
