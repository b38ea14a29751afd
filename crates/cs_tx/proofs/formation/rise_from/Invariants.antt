use Rattle.std.proofs.Common.{◌≡◌, drop}
use Rattle.cs_tx.specs.WellFormed.{rising_from}
use Rattle.cs_tx.proofs.formation.rise_from.Given as goal

abbrev pub invariant-loop-dummy : goal.invariant-loop-dummy
invariant-loop-dummy l = rising_from l.last (drop l.dummy-index l.dummies) ≡ rising_from l.shard l.dummies
