use Rattle.std.proofs.Common.{◌≡◌, suc, ◌+◌, ◌++◌, ap, sym, ◌∙◌, arith}
use Rattle.cs_replay_rules.specs.Dumps.{logs_text}
use Rattle.cs_replay_play.specs.Standing.{site_in}
use Rattle.cs_replay.specs.Lines.{logged_text}
use Rattle.cs_replay.proofs.dump.logs_text.Goals as goal

pub loop-shard-preserved : goal.loop-shard-preserved
loop-shard-preserved g c = λ s p st f.
    let site = site_in g.O.Order.rules g.O.Carried.carrier s in
    let shard = c.loop-shard.shard in
    let next : shard + 1 ≡ suc shard = omega arith in
    c.in_ok-push_str.ensures.bytes
    ∙ ap (λ text. text ++ c.deref.result.now) (c.loop-shard.invariant s p st f)
    ∙ ap (λ log. logs_text site p.world shard ++ log) (c.deref.ensures ∙ c.in_ok-log.ensures ∙ ap (logged_text shard) (c.shard_log-longest.ensures s p st f))
    ∙ sym (ap (logs_text site p.world) next)

pub returns : goal.returns
returns g c = λ s p st f.
    let site = site_in g.O.Order.rules g.O.Carried.carrier s in
    let all : c.loop-shard.shard ≡ c.args.config.shards = omega (arith, c.loop-shard-test.false, c.loop-shard.auto.shard-end) in
    c.loop-shard.invariant s p st f ∙ ap (logs_text site p.world) all
