use Rattle.std.proofs.Common.{drop, map}
use Rattle.cs_table.specs.Seen.{seen_piece}
use Rattle.cs_table.specs.Changes.{changed_but, changed_record}
use Rattle.cs_table.proofs.Loops.{Left}
use Rattle.cs_table.proofs.Weights.{weight_of}
use Rattle.cs_table.proofs.table.Table.change_read.Given as goal

abbrev pub invariant-loop-piece : goal.invariant-loop-piece
invariant-loop-piece l = Left (weight_of l.change) (changed_but (map seen_piece l.used) (changed_record l.change)) (drop l.piece-index l.read) l.read l.initial.self l.self
