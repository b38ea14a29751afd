use Rattle.std.proofs.Common.{ap, ◌∙◌, slice_set, arith}
use Rattle.cs_replay_play.proofs.Places.{logged-set, logged-past}
use Rattle.cs_replay_play.proofs.node_log.take_at.Goals as goal

pub returns-in_ok-take : goal.returns-in_ok-take
returns-in_ok-take c =
    ap (slice_set c.args.logs.now.items c.args.place) c.in_ok-take.ensures
    ∙ logged-set c.args.place c.args.notes.items c.args.logs.now.items c.index_mut.result.now (omega (arith, c.if-place-len.true, c.len.ensures)) c.index_mut.ensures.value

pub returns-else-place-len : goal.returns-else-place-len
returns-else-place-len c = logged-past c.args.place c.args.notes.items c.args.logs.now.items (omega (arith, c.if-place-len.false, c.len.ensures))
