use Rattle.std.proofs.Common.{◌≡◌, ◌++◌, drop}
use Rattle.std.specs.List.{flat_map}
use Rattle.cs_tx.specs.Digest.{outputs_from}
use Rattle.cs_tx.specs.Uses.{names}
use Rattle.cs_tx.proofs.names.output_names.Given as goal

abbrev pub invariant-loop-number : goal.invariant-loop-number
invariant-loop-number l = l.found ++ names (flat_map (λ outputs. outputs) (outputs_from l.digest l.number (drop l.number l.traces))) ≡ names (flat_map (λ outputs. outputs) (outputs_from l.digest 0 l.traces))
