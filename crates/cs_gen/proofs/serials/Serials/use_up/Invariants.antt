use Rattle.std.proofs.Common.{◌≡◌, ℕ, ◌+◌, ◌<◌, ◌==◌, take, slice_index}
use Rattle.std.specs.Prelude.{count_by}
use Rattle.cs_gen.proofs.serials.Serials.use_up.Given as goal

abbrev pub invariant-loop-shard : goal.invariant-loop-shard
invariant-loop-shard l =
    (shard : ℕ) → shard < 3 → slice_index l.self.next shard
    ≡ slice_index l.initial.self.next shard + count_by (λ other. other == shard) (take l.shard-index l.shards)
