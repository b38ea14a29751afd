use Rattle.std.proofs.Common.{◌≡◌, map, take, slice_index}
use Rattle.cs_gen.proofs.serials.Serials.dummies.Given as goal

abbrev pub invariant-loop-shard : goal.invariant-loop-shard
invariant-loop-shard l = l.dummies ≡ map (λ shard. (shard, slice_index l.self.next shard)) (take l.shard-index l.shards)
