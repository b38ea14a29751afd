use Rattle.cs_merkle.proofs.proof.+follow.Given as goal

abbrev pub decreases-follow : goal.decreases-follow
decreases-follow l = l.n
