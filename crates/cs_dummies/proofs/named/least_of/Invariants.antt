use Rattle.std.proofs.Common.{◌≡◌, take, fold}
use Rattle.cs_dummies.specs.Named.{least_serial}
use Rattle.cs_dummies.proofs.named.least_of.Given as goal

abbrev pub invariant-loop-serial : goal.invariant-loop-serial
invariant-loop-serial l = l.least ≡ fold (least_serial l.f l.all) l.fn.found (take l.serial-index l.named)
