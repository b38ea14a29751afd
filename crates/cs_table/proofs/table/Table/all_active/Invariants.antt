use Rattle.std.proofs.Common.{◌≡◌, drop, map}
use Rattle.cs_ledger.specs.Table.{all_ready}
use Rattle.cs_table.specs.Seen.{seen, seen_piece}
use Rattle.cs_table.proofs.table.Table.all_active.Given as goal

abbrev pub invariant-loop-piece : goal.invariant-loop-piece
invariant-loop-piece l = all_ready (seen l.self) (map seen_piece (drop l.piece-index l.pieces)) ≡ all_ready (seen l.self) (map seen_piece l.pieces)
