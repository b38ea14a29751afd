use Rattle.std.proofs.Common.{◌≡◌, drop}
use Rattle.cs_dummies.specs.Named.{names}
use Rattle.cs_dummies.proofs.named.names.Given as goal

abbrev pub invariant-loop-other : goal.invariant-loop-other
invariant-loop-other l = names l.serial (drop l.other-index l.named) ≡ names l.serial l.named
