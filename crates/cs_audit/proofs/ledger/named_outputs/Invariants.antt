use Rattle.std.proofs.Common.{◌≡◌, ◌++◌, drop}
use Rattle.std.specs.List.{flat_map}
use Rattle.cs_tx.specs.Digest.{outputs_from}
use Rattle.cs_audit.proofs.ledger.named_outputs.Given as goal

abbrev pub invariant-loop-number : goal.invariant-loop-number
invariant-loop-number l =
    l.found.items ++ flat_map (λ items. items) (outputs_from l.digest l.number (drop l.number l.traces)) ≡ flat_map (λ items. items) (outputs_from l.digest 0 l.traces)
