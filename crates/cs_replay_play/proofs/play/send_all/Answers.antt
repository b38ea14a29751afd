use Rattle.std.proofs.Common.{◌≡◌, ◌+◌, ◌<◌, length, refl, ap, ◌∙◌, Err, arith, rules}
use Rattle.cs_replay_rules.specs.Play.{size_of, most_sent}
use Rattle.cs_replay_play.proofs.Posted.{full-all}
use Rattle.cs_replay_play.proofs.play.send_all.Goals as goal

pub returns-in-Err-Full : goal.returns-in-Err-Full
returns-in-Err-Full c =
    let items : length c.in_ok-bytes.bytes.items ≡ length c.as_slice.result.now = search rules in
    let bytes : length c.new-parcel.result.bytes ≡ length c.out-item.result.bytes = ap (λ q. length q.bytes) c.new-parcel.ensures ∙ ap length c.from_vec.ensures ∙ items ∙ ap length c.as_slice.ensures in
    let large : most_sent < size_of c.loop-out.post + length c.out-item.result.bytes = omega (arith, c.in-Err-Full.ensures.full (ap Err c.in-Err-Full.field-0-is), bytes) in
    (refl, full-all c.args.from c.args.post.now c.loop-out.post c.args.outs.now c.loop-out.out-index c.out-item.result c.loop-out.invariant.0 c.loop-out-test.true c.out-item.is large)
