use Rattle.std.proofs.Common.{◌≡◌, ◌++◌, drop, map}
use Rattle.cs_tx.specs.Digest.{outputs_from, keys}
use Rattle.cs_tx.proofs.digests.keys_of_traces.Given as goal

abbrev pub invariant-loop-number : goal.invariant-loop-number
invariant-loop-number l = l.found ++ map keys (outputs_from l.digest l.number (drop l.number l.traces)) ≡ map keys (outputs_from l.digest 0 l.traces)
