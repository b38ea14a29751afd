use Rattle.std.proofs.Common.{◌≡◌, ◌++◌, take}
use Rattle.cs_client.specs.Waits.{unsettled}
use Rattle.cs_client.proofs.beliefs.add_unsettled.Given as goal

abbrev pub invariant-loop-one : goal.invariant-loop-one
invariant-loop-one l = l.names ≡ l.initial.names ++ unsettled (take l.one-index l.asked)
