use Rattle.std.proofs.Common.{[], drop, map}
use Rattle.cs_table.specs.Seen.{seen_piece}
use Rattle.cs_table.specs.Changes.{appeared_each}
use Rattle.cs_table.proofs.Loops.{Left}
use Rattle.cs_table.proofs.Weights.{deciding}
use Rattle.cs_table.proofs.table.Table.appear_each.Given as goal

abbrev pub invariant-loop-piece : goal.invariant-loop-piece
invariant-loop-piece l = Left (deciding []) (appeared_each (map seen_piece l.read)) (drop l.piece-index l.made) l.made l.initial.self l.self
