use Rattle.std.proofs.Common.{◌++◌, take, sym, ap, ◌∙◌}
use Rattle.cs_replay_rules.specs.Lines.{sent_lines}
use Rattle.cs_replay_play.proofs.Posted.{lines-more}
use Rattle.cs_replay_play.proofs.telling.parcel_lines.Goals as goal

pub loop-place-preserved : goal.loop-place-preserved
loop-place-preserved c =
    let parcels = c.args.parcels.now in
    let k = c.loop-place.place in
    c.in_ok-push_str.ensures.bytes
    ∙ ap (λ text. text ++ c.deref.result.now) c.loop-place.invariant
    ∙ ap (λ line. sent_lines c.args.number (take k parcels) ++ line) (c.deref.ensures ∙ c.in_ok-line.ensures)
    ∙ sym (lines-more c.args.number parcels k c.index-parcels-place.result c.loop-place-test.true c.index-parcels-place.is)
