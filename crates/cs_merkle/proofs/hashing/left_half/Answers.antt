use Rattle.cs_merkle.proofs.Splits.{split_by_bits, split_positive, split_below}
use Rattle.cs_merkle.proofs.hashing.left_half.Goals as goal

pub returns-clause-split : goal.returns-clause-split
returns-clause-split c =
    let bits = c.ilog2.ensures in
    split_by_bits c.ilog2.result c.args.n c.requires bits.bound bits.power_le bits.next_power_gt

pub returns-clause-some : goal.returns-clause-some
returns-clause-some c = rw (returns-clause-split c) (split_positive c.args.n c.requires)

pub returns-clause-below : goal.returns-clause-below
returns-clause-below c = rw (returns-clause-split c) (split_below c.args.n c.requires)
