use Rattle.cs_merkle_kept.proofs.levels.+height_of.Given as goal

abbrev pub decreases-height_of : goal.decreases-height_of
decreases-height_of l = l.count
