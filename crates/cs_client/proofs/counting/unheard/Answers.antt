use Rattle.std.proofs.Common.{subst, sym, take, get_or, ◌++◌, ◌∷◌, [], ◌+◌}
use Rattle.std.proofs.lemmas.List.{take_more}
use Rattle.cs_client.specs.Voices.{Pairwise, IsUnheard}
use Rattle.cs_client.proofs.Counted.{paired-more}
use Rattle.cs_client.proofs.counting.unheard.Goals as goal

pub loop-shard-preserved : goal.loop-shard-preserved
loop-shard-preserved c =
    let R = IsUnheard c.args.config.now.f in
    let shards = c.args.shards.now in
    let i = c.loop-shard.shard-index in
    let voices = c.loop-shard.voices.items in
    subst (λ vs. Pairwise R (take (i + 1) shards) vs) (sym c.in_ok-push.ensures.items)
    (subst (λ xs. Pairwise R xs (voices ++ c.new.result ∷ [])) (sym (take_more shards i 0 c.loop-shard-test.true))
    (paired-more R (take i shards) voices (get_or shards i 0) c.new.result c.loop-shard.invariant c.new.ensures))
