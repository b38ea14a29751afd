use Rattle.std.proofs.Common.{ap, ◌∙◌}
use Rattle.cs_order.specs.Counts.{last_below}
use Rattle.cs_order.specs.Limits.{view_bound}
use Rattle.cs_change.specs.Kept.{KeptReach, is_joined}
use Rattle.cs_change.proofs.Reaching.{last_of_end}
use Rattle.cs_change.proofs.reach.Reach.last.Goals as goal

pub returns : goal.returns
returns c =
    last_of_end c.self.inside.f c.self.inside.furthest.entries c.self.inside.end c.checked_sub.result c.self.invariant.1 c.checked_sub.ensures
    ∙ ap (λ (k : KeptReach). last_below view_bound (is_joined k.f k.furthest)) c.self.view_is
