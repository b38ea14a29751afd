-- What the notes of a node print.
use Rattle.std.specs.Prelude.{List, []}
use Rattle.std.specs.List.{flat_map}
use Rattle.cs_base.specs.declared.node_id.NodeId.{NodeId}
use Rattle.cs_tx.specs.Digest.{digest_of_session}
use Rattle.cs_ledger.specs.Ledger.{Bytes}
use Rattle.cs_tx_types.specs.Session.{session_in}
use Rattle.cs_node_rules.specs.Lines.{slot_line, head_line}
use Rattle.cs_table.specs.Effects.{effect_of}
use Rattle.cs_node.specs.declared.draft.Note.{Note}
use Rattle.cs_node.specs.declared.draft.Note.TheVariants as note

-- the line of an execution or of a checkpoint; none of a dropped input or of a view that was entered
abbrev pub served_note_text : NodeId → Note → Bytes
served_note_text me (note.Dropped cause) = []
served_note_text me (note.Viewed slot view) = []
served_note_text me (note.Headed number head) = head_line me number head
served_note_text me (note.Executed slot place entry effect) =
    slot_line me slot (digest_of_session (session_in entry)) (effect_of effect)

abbrev pub served_notes_text : NodeId → List Note → Bytes
served_notes_text me notes = flat_map (served_note_text me) notes
