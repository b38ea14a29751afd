use Rattle.std.proofs.Common.{◌≡◌, ◌++◌, drop}
use Rattle.cs_tx.specs.Digest.{outputs_at}
use Rattle.cs_audit.proofs.ledger.add_outputs.Given as goal

abbrev pub invariant-loop-place : goal.invariant-loop-place
invariant-loop-place l = l.found.items ++ outputs_at l.digest l.trace l.place (drop l.place l.outputs) ≡ l.initial.found.items ++ outputs_at l.digest l.trace 0 l.outputs
