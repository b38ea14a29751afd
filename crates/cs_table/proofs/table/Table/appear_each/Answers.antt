use Rattle.std.proofs.Common.{[], map, drop, ◌+◌, sym, ap, ◌∙◌, subst}
use Rattle.cs_tx_value.specs.declared.object.Object.{Object}
use Rattle.cs_tx_value.specs.Object.{object_encoding}
use Rattle.cs_tx.specs.Sessions.{key_seen}
use Rattle.cs_table.specs.Seen.{Stored, seen_piece}
use Rattle.cs_table.specs.Changes.{changed, appeared_record, appeared_each}
use Rattle.cs_table.proofs.Loops.{Left, left_more, left_same, hidden, shown}
use Rattle.cs_table.proofs.Weights.{deciding, one_gains, appears_gain}
use Rattle.cs_table.proofs.table.Table.appear_each.Goals as goal
use Rattle.cs_table.proofs.table.Table.appear_each.Goals.{then-not-has_key+in_ok-copy+in_ok-appear, else-not-has_key}

pub loop-piece-preserved : goal.loop-piece-preserved
loop-piece-preserved c =
    let read = map seen_piece c.args.read.now in
    let weight = deciding [] in
    let Later : Stored → Type 0 = λ later. Left weight (appeared_each read) (drop (c.loop-piece.piece-index + 1) c.args.made.now) c.args.made.now c.args.self.now later in
    elim c.if-not-has_key.branch [
      | then-not-has_key+in_ok-copy+in_ok-appear w ↦
          let object = object_encoding w.in_ok-copy.field-0 in
          let key = key_seen c.piece-item.result.key in
          subst Later (sym w.self-is)
          (left_more weight (appeared_each read) c.args.made.now c.loop-piece.piece-index c.piece-item.result c.args.self.now c.loop-piece.self c.loop-piece-test.true c.piece-item.is c.loop-piece.invariant
          w.appear.new.self (changed (appeared_record object) key)
          (shown read c.piece-item.result object (ap (λ (o : Object). object_encoding o) w.in_ok-copy.ensures) (sym c.has_key.ensures ∙ w.if-not-has_key.true))
          (one_gains weight (appeared_record object) (appears_gain [] object) key)
          w.in_ok-appear.ensures)
      | else-not-has_key w ↦
          subst Later (sym w.self-is)
          (left_same weight (appeared_each read) c.args.made.now c.loop-piece.piece-index c.piece-item.result c.args.self.now c.loop-piece.self c.loop-piece-test.true c.piece-item.is c.loop-piece.invariant
          (hidden read c.piece-item.result (sym c.has_key.ensures ∙ w.if-not-has_key.false)))
    ]
