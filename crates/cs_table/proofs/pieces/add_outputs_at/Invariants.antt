use Rattle.std.proofs.Common.{◌≡◌, ◌++◌, drop}
use Rattle.cs_tx.specs.Digest.{outputs_at}
use Rattle.cs_table.specs.Pieces.{pieces_in}
use Rattle.cs_table.proofs.pieces.add_outputs_at.Given as goal

abbrev pub invariant-loop-place : goal.invariant-loop-place
invariant-loop-place l = l.pieces.items ++ pieces_in l.config.shards l.shard (outputs_at l.digest l.trace l.place (drop l.place l.outputs)) ≡ l.initial.pieces.items ++ pieces_in l.config.shards l.shard (outputs_at l.digest l.trace 0 l.outputs)
