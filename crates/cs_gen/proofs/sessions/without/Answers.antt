use Rattle.std.proofs.Common.{ℕ, List, ◌∷◌, [], not, ap, ◌∙◌, arith}
use Rattle.std.specs.Prelude.{filter}
use Rattle.std.proofs.lemmas.List.{take_all}
use Rattle.cs_tx.specs.Uses.{is_among}
use Rattle.cs_gen.specs.Rounds.{layout}
use Rattle.cs_gen.proofs.sessions.without.Goals as goal

pub returns : goal.returns
returns c =
    c.loop-shard.invariant
    ∙ ap (λ (shards : List ℕ). filter (λ shard. not (is_among layout shard (c.args.input.now ∷ []))) shards) (take_all c.loop-shard.shard-index c.args.shards.now (omega arith))
