use Rattle.std.proofs.Common.{◌≡◌, None, take, fold}
use Rattle.cs_dummies.specs.Named.{least_of}
use Rattle.cs_dummies.proofs.named.least_named.Given as goal

abbrev pub invariant-loop-named : goal.invariant-loop-named
invariant-loop-named l = l.least ≡ fold (least_of l.f l.words) None (take l.named-index l.words)
