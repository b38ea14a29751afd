use Rattle.std.proofs.Common.{◌≡◌, ◌++◌, drop}
use Rattle.std.specs.List.{flat_map}
use Rattle.cs_table.specs.Pieces.{pieces_in}
use Rattle.cs_table.proofs.pieces.add_references.Given as goal

abbrev pub invariant-loop-trace : goal.invariant-loop-trace
invariant-loop-trace l = l.pieces.items ++ pieces_in l.config.shards l.shard (flat_map (λ trace. trace.references) (drop l.trace-index l.traces)) ≡ l.initial.pieces.items ++ pieces_in l.config.shards l.shard (flat_map (λ trace. trace.references) l.traces)
