use Rattle.std.proofs.Common.{◌≡◌, ◌++◌, drop}
use Rattle.cs_table.specs.Pieces.{pieces_in}
use Rattle.cs_table.proofs.pieces.add_pieces.Given as goal

abbrev pub invariant-loop-item : goal.invariant-loop-item
invariant-loop-item l = l.pieces.items ++ pieces_in l.config.shards l.shard (drop l.item-index l.items) ≡ l.initial.pieces.items ++ pieces_in l.config.shards l.shard l.items
