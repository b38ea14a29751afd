use Rattle.std.proofs.Common.{◌≡◌, take}
use Rattle.cs_dummies.specs.Named.{without}
use Rattle.cs_dummies.proofs.named.without.Given as goal

abbrev pub invariant-loop-other : goal.invariant-loop-other
invariant-loop-other l = l.others ≡ without l.serial (take l.other-index l.named)
