use Rattle.std.proofs.Common.{◌∙◌, sym}
use Rattle.cs_table.proofs.Beginning.{loaded, begins}
use Rattle.cs_table.proofs.table.Table.load.Goals as goal

pub loop-piece-init : goal.loop-piece-init
loop-piece-init c = begins c.args.pieces.now c.args.self.now c.requires.empty

pub loop-piece-preserved : goal.loop-piece-preserved
loop-piece-preserved c = loaded c.args.pieces.now c.loop-piece.piece-index c.piece-item.result c.args.self.now c.loop-piece.self c.loop-piece-test.true c.piece-item.is c.loop-piece.invariant c.appear.new.self c.in_ok-object.object c.in_ok-object.ensures (sym c.is_unknown.ensures ∙ c.if-not-is_unknown.false) c.in_ok-appear.ensures
