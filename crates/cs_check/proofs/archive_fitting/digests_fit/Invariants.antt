use Rattle.std.proofs.Common.{take}
use Rattle.std.specs.List.{AllByRecursion}
use Rattle.cs_tx_value.specs.Object.{DigestFits}
use Rattle.cs_check.proofs.archive_fitting.digests_fit.Given as goal

abbrev pub invariant-loop-digest : goal.invariant-loop-digest
invariant-loop-digest l = AllByRecursion DigestFits (take l.digest-index l.digests)
