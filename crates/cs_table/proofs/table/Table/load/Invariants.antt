use Rattle.cs_table.proofs.Beginning.{Loading}
use Rattle.cs_table.proofs.table.Table.load.Given as goal

abbrev pub invariant-loop-piece : goal.invariant-loop-piece
invariant-loop-piece l = Loading l.pieces l.piece-index l.initial.self l.self
