use Rattle.std.proofs.Common.{◌≡◌, subst}
use Rattle.std.specs.Int.Count.{ones}
use Rattle.cs_order.specs.Counts.{count_below}
use Rattle.cs_quorum.specs.Marks.{Marks, members_of, is_marked}
use Rattle.cs_quorum.proofs.Masks.{ones_count}
use Rattle.cs_quorum.proofs.tally.Tally.count.Goals as goal

pub returns : goal.returns
returns c =
    let Counts : Marks → Type 0 = λ marks. ones c.self.inside.mask ≡ count_below (members_of marks) (is_marked marks) in
    subst Counts c.self.view_is (ones_count c.self.inside.members c.self.inside.mask c.self.invariant.below)
