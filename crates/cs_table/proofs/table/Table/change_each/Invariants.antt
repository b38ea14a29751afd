use Rattle.std.proofs.Common.{drop}
use Rattle.cs_table.specs.Changes.{changed_each, changed_record}
use Rattle.cs_table.proofs.Loops.{Left}
use Rattle.cs_table.proofs.Weights.{weight_of}
use Rattle.cs_table.proofs.table.Table.change_each.Given as goal

abbrev pub invariant-loop-piece : goal.invariant-loop-piece
invariant-loop-piece l = Left (weight_of l.change) (changed_each (changed_record l.change)) (drop l.piece-index l.pieces) l.pieces l.initial.self l.self
