use Rattle.std.proofs.Common.{◌≡◌, take}
use Rattle.cs_dummies.specs.Named.{namers}
use Rattle.cs_dummies.proofs.named.namers.Given as goal

abbrev pub invariant-loop-named : goal.invariant-loop-named
invariant-loop-named l = l.count ≡ namers l.serial (take l.named-index l.words)
