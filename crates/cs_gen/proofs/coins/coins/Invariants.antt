use Rattle.std.proofs.Common.{◌≡◌, map, take}
use Rattle.cs_gen.specs.Coins.{coin}
use Rattle.cs_gen.proofs.coins.coins.Given as goal

abbrev pub invariant-loop-worth : goal.invariant-loop-worth
invariant-loop-worth l = l.made ≡ map coin (take l.worth-index l.worths)
