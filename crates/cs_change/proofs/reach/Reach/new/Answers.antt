use Rattle.cs_change.proofs.Reaching.{none_joined}
use Rattle.cs_change.proofs.reach.Reach.new.Goals as goal

pub invariant_of-result : goal.invariant_of-result
invariant_of-result c = (c.requires, none_joined c.args.f c.new.result.entries c.new.ensures.empty)
