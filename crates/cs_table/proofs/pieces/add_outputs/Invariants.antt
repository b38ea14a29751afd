use Rattle.std.proofs.Common.{◌≡◌, ◌++◌, drop}
use Rattle.std.specs.List.{flat_map}
use Rattle.cs_tx.specs.Digest.{outputs_from}
use Rattle.cs_table.specs.Pieces.{pieces_in}
use Rattle.cs_table.proofs.pieces.add_outputs.Given as goal

abbrev pub invariant-loop-number : goal.invariant-loop-number
invariant-loop-number l = l.pieces.items ++ pieces_in l.config.shards l.shard (flat_map (λ outputs. outputs) (outputs_from l.digest l.number (drop l.number l.traces))) ≡ l.initial.pieces.items ++ pieces_in l.config.shards l.shard (flat_map (λ outputs. outputs) (outputs_from l.digest 0 l.traces))
