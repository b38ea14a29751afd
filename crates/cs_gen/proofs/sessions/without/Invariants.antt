use Rattle.std.proofs.Common.{◌≡◌, ◌∷◌, [], not, take}
use Rattle.std.specs.Prelude.{filter}
use Rattle.cs_tx.specs.Uses.{is_among}
use Rattle.cs_gen.specs.Rounds.{layout}
use Rattle.cs_gen.proofs.sessions.without.Given as goal

abbrev pub invariant-loop-shard : goal.invariant-loop-shard
invariant-loop-shard l = l.others ≡ filter (λ shard. not (is_among layout shard (l.input ∷ []))) (take l.shard-index l.shards)
