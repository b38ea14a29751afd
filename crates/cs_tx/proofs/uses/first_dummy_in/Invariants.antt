use Rattle.std.proofs.Common.{◌≡◌, drop}
use Rattle.cs_tx.specs.Uses.{dummy_in}
use Rattle.cs_tx.proofs.uses.first_dummy_in.Given as goal

abbrev pub invariant-loop-dummy : goal.invariant-loop-dummy
invariant-loop-dummy l = dummy_in l.shard (drop l.dummy-index l.dummies) ≡ dummy_in l.shard l.dummies
