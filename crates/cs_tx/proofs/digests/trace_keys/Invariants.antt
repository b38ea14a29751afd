use Rattle.std.proofs.Common.{◌≡◌, ◌++◌, drop}
use Rattle.cs_tx.specs.Digest.{outputs_at, keys}
use Rattle.cs_tx.proofs.digests.trace_keys.Given as goal

abbrev pub invariant-loop-place : goal.invariant-loop-place
invariant-loop-place l = l.found ++ keys (outputs_at l.digest l.trace l.place (drop l.place l.outputs)) ≡ keys (outputs_at l.digest l.trace 0 l.outputs)
