use Rattle.std.proofs.Common.{◌≡◌, ◌+◌, ◌*◌, ap, ◌∙◌, option_copied, arith}
use Rattle.cs_replay_play.specs.Logged.{logged_of}
use Rattle.cs_replay_play.specs.Longest.{logged_or_empty, longer_found}
use Rattle.cs_replay_play.specs.Standing.{site_in}
use Rattle.cs_replay_play.proofs.Longer.{longest_below, longest-next}
use Rattle.cs_replay_play.proofs.play.Replay.shard_log.Goals as goal

pub loop-index-preserved : goal.loop-index-preserved
loop-index-preserved g c = λ s p st.
    let site = site_in g.O.Order.rules g.O.Carried.carrier s in
    let found = option_copied c.loop-index.found in
    ap logged_or_empty (c.longer-found.ensures ∙ ap (λ later. longer_found found later) (c.node_log.ensures s p st))
    ∙ longest-next site p.world c.args.shard c.loop-index.index found (c.loop-index.invariant s p st)

pub returns : goal.returns
returns g c = λ s p st f.
    let site = site_in g.O.Order.rules g.O.Carried.carrier s in
    let all : c.loop-index.index ≡ 3 * s.setup.f + 1 = omega (arith, c.loop-index-test.false, c.loop-index.auto.index-end, f) in
    c.loop-index.invariant s p st ∙ ap (λ n. logged_of (longest_below site p.world c.args.shard n)) all
