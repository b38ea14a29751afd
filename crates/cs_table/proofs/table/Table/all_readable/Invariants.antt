use Rattle.std.proofs.Common.{◌≡◌, drop, map}
use Rattle.cs_ledger.specs.Table.{all_readable}
use Rattle.cs_table.specs.Seen.{seen, seen_piece}
use Rattle.cs_table.proofs.table.Table.all_readable.Given as goal

abbrev pub invariant-loop-piece : goal.invariant-loop-piece
invariant-loop-piece l = all_readable (seen l.self) (map seen_piece (drop l.piece-index l.pieces)) ≡ all_readable (seen l.self) (map seen_piece l.pieces)
