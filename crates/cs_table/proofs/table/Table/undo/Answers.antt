use Rattle.std.proofs.Common.{map, sym, ◌∙◌}
use Rattle.cs_table.specs.Seen.{seen_piece}
use Rattle.cs_tx.specs.Sessions.{key_seen}
use Rattle.cs_table.proofs.Executions.{aborted_full, aborted_noted, still_place}
use Rattle.cs_table.proofs.table.Table.undo.Goals as goal

pub returns-in_ok-note : goal.returns-in_ok-note
returns-in_ok-note c = aborted_noted c.args.self.now c.change_each.new.self c.change_read.new.self c.note.new.self c.args.session.now (key_seen c.args.anchor.now) (map seen_piece c.args.used.now) (map seen_piece c.args.read.now) (sym c.has_place-has_place.ensures ∙ c.if-has_place.true) c.in_ok-change_each.ensures c.in_ok-change_read.ensures c.in_ok-note.ensures

pub returns-else-has_place : goal.returns-else-has_place
returns-else-has_place c = aborted_full c.args.self.now c.change_each.new.self c.change_read.new.self c.args.session.now (key_seen c.args.anchor.now) (map seen_piece c.args.used.now) (map seen_piece c.args.read.now) (sym c.has_place-has_place.ensures ∙ c.if-has_place.false) c.in_ok-change_each.ensures c.in_ok-change_read.ensures

pub note-requires : goal.note-requires
note-requires c = still_place c.args.self.now c.change_each.new.self c.change_read.new.self c.args.session.now (map seen_piece c.args.used.now) (map seen_piece c.args.read.now) (key_seen c.args.anchor.now) c.in_ok-change_each.ensures c.in_ok-change_read.ensures (sym c.has_place-has_place.ensures ∙ c.if-has_place.true)
