use Rattle.std.proofs.Common.{sym}
use Rattle.cs_change.proofs.Adding.{reached_beyond}
use Rattle.cs_change.proofs.Reaching.{ends_later}
use Rattle.cs_change.proofs.reach.Reach.add.Goals as goal

pub invariant_of-self-2 : goal.invariant_of-self-2
invariant_of-self-2 c =
    let added = reached_beyond c.self.inside.furthest.entries c.insert.new.self.entries c.args.view c.args.member (sym c.if-reaches.ensures) c.in_default.ensures.updates.0 in
    let from = c.end_from-self-inside.ensures in
    (c.self.invariant.0, ends_later c.self.inside.f c.self.inside.furthest.entries c.insert.new.self.entries c.args.view c.args.member c.self.inside.end c.end_from-self-inside.result added c.self.invariant.1 from.bound from.joined from.end)
