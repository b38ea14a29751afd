use Rattle.std.proofs.Common.{sym, ◌∙◌}
use Rattle.cs_table.specs.Seen.{shown_at}
use Rattle.cs_table.proofs.Known.{room_has_place}
use Rattle.cs_table.proofs.table.Table.vote_on.Goals as goal

pub note-requires : goal.note-requires
note-requires c =
    room_has_place (shown_at c.args.self.now c.args.anchor.now).book
    (sym c.has_room.ensures ∙ c.if-not-has_room.false)
