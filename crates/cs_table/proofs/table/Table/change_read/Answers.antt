use Rattle.std.proofs.Common.{map, drop, ◌+◌, sym, ◌∙◌, subst}
use Rattle.cs_tx.specs.Sessions.{key_seen}
use Rattle.cs_table.specs.Seen.{Stored, seen_piece}
use Rattle.cs_table.specs.Changes.{changed, changed_record, changed_but}
use Rattle.cs_table.proofs.Loops.{Left, left_more, left_same, passed, not_passed}
use Rattle.cs_table.proofs.Weights.{weight_of, one_gains, change_gains}
use Rattle.cs_table.proofs.table.Table.change_read.Goals as goal
use Rattle.cs_table.proofs.table.Table.change_read.Goals.{then-not-has_key+in_ok-change, else-not-has_key}

pub loop-piece-preserved : goal.loop-piece-preserved
loop-piece-preserved c =
    let used = map seen_piece c.args.used.now in
    let step = changed_record c.args.change in
    let weight = weight_of c.args.change in
    let Later : Stored → Type 0 = λ later. Left weight (changed_but used step) (drop (c.loop-piece.piece-index + 1) c.args.read.now) c.args.read.now c.args.self.now later in
    elim c.if-not-has_key.branch [
      | then-not-has_key+in_ok-change w ↦
          let key = key_seen c.piece-item.result.key in
          subst Later (sym w.self-is)
          (left_more weight (changed_but used step) c.args.read.now c.loop-piece.piece-index c.piece-item.result c.args.self.now c.loop-piece.self c.loop-piece-test.true c.piece-item.is c.loop-piece.invariant
          w.change.new.self (changed step key)
          (not_passed used step c.piece-item.result (sym c.has_key.ensures ∙ w.if-not-has_key.true))
          (one_gains weight step (change_gains c.args.change) key)
          w.in_ok-change.ensures)
      | else-not-has_key w ↦
          subst Later (sym w.self-is)
          (left_same weight (changed_but used step) c.args.read.now c.loop-piece.piece-index c.piece-item.result c.args.self.now c.loop-piece.self c.loop-piece-test.true c.piece-item.is c.loop-piece.invariant
          (passed used step c.piece-item.result (sym c.has_key.ensures ∙ w.if-not-has_key.false)))
    ]
