use Rattle.std.proofs.Common.{◌≡◌, ◌∙◌, ◌<◌, ◌^◌, ap, sym, subst, bit_or}
use Rattle.std.specs.Int.Count.{ones}
use Rattle.cs_order.specs.Counts.{count_below}
use Rattle.cs_quorum.specs.Marks.{Marks, members_of, is_in_either}
use Rattle.cs_quorum.proofs.Masks.{either_count}
use Rattle.cs_quorum.proofs.tally.Tally.merged.Goals as goal

pub returns : goal.returns
returns c =
    let here = c.self.inside in
    let there = c.other.inside in
    let same : there.members ≡ here.members = ap members_of c.other.view_is ∙ c.requires ∙ sym (ap members_of c.self.view_is) in
    let below : there.mask < 2 ^ here.members = subst (λ m. there.mask < 2 ^ m) same c.other.invariant.below in
    let Counts : Marks × Marks → Type 0 = λ pair. ones (bit_or here.mask there.mask) ≡ count_below (members_of pair.0) (is_in_either pair.0 pair.1) in
    subst Counts (λ i. (c.self.view_is i, c.other.view_is i)) (either_count here.members here.mask there.mask c.self.invariant.below below)
