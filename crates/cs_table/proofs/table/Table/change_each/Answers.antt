use Rattle.std.proofs.Common.{refl}
use Rattle.cs_tx.specs.Sessions.{key_seen}
use Rattle.cs_table.specs.Changes.{changed, changed_record, changed_each}
use Rattle.cs_table.proofs.Loops.{left_more}
use Rattle.cs_table.proofs.Weights.{weight_of, one_gains, change_gains}
use Rattle.cs_table.proofs.table.Table.change_each.Goals as goal

pub loop-piece-preserved : goal.loop-piece-preserved
loop-piece-preserved c =
    let key = key_seen c.piece-item.result.key in
    let weight = weight_of c.args.change in
    left_more weight (changed_each (changed_record c.args.change)) c.args.pieces.now c.loop-piece.piece-index c.piece-item.result c.args.self.now c.loop-piece.self c.loop-piece-test.true c.piece-item.is c.loop-piece.invariant
    c.change.new.self (changed (changed_record c.args.change) key) (λ ps t. refl)
    (one_gains weight (changed_record c.args.change) (change_gains c.args.change) key)
    c.in_ok-change.ensures
