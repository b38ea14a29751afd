use Rattle.std.proofs.Common.{◌≡◌, ◌++◌, drop}
use Rattle.cs_table.specs.Pieces.{pieces_in}
use Rattle.cs_table.specs.Genesis.{keyed_of}
use Rattle.cs_table.proofs.genesis.genesis_pieces.Given as goal

abbrev pub invariant-loop-item : goal.invariant-loop-item
invariant-loop-item l = l.pieces.items ++ pieces_in l.config.shards l.shard (keyed_of (drop l.item-index l.objects)) ≡ pieces_in l.config.shards l.shard (keyed_of l.objects)
