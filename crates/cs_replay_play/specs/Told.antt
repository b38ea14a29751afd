-- What the notes of a node print, and the first executions with theirs.
use Rattle.std.specs.Prelude.{◌≡◌, ℕ, ◌<◌, Bool, List, [], ◌∷◌, ◌++◌}
use Rattle.std.specs.List.{flat_map}
use Rattle.cs_base.specs.declared.node_id.NodeId.{NodeId}
use Rattle.cs_tx.specs.Digest.{digest_of_session}
use Rattle.cs_ledger.specs.Ledger.{Bytes}
use Rattle.cs_node_state.specs.Setup.{Setup}
use Rattle.cs_tx_types.specs.Session.{session_in}
use Rattle.cs_node_rules.specs.Signs.{Did}
use Rattle.cs_node_rules.specs.World.{Execution, with_first_execution}
use Rattle.cs_node_rules.specs.Lines.{Parcel, slot_line, drop_line, view_line, head_line, if_traced}
use Rattle.cs_replay_rules.specs.Lines.{at_line, sent_lines}
use Rattle.cs_table.specs.Effects.{effect_of}
use Rattle.cs_node.specs.declared.draft.Note.{Note}
use Rattle.cs_node.specs.declared.draft.Note.TheVariants as note
use Rattle.cs_replay_play.specs.Kept.{KeptHistory, KeepsHistory, with_abort}

-- the line of an execution, or, in a trace, of a dropped input or of a view that was entered
abbrev pub note_text : Bool → NodeId → Note → Bytes
note_text traced me (note.Dropped cause) = if_traced traced (drop_line me cause)
note_text traced me (note.Viewed slot view) = if_traced traced (view_line me slot view)
note_text traced me (note.Headed number head) = head_line me number head
note_text traced me (note.Executed slot place entry effect) =
    slot_line me slot (digest_of_session (session_in entry)) (effect_of effect)

abbrev pub notes_text : Bool → NodeId → List Note → Bytes
notes_text traced me notes = flat_map (note_text traced me) notes

abbrev pub note_first : ℕ → Note → List Execution → List Execution
note_first shard (note.Dropped cause) firsts = firsts
note_first shard (note.Viewed slot view) firsts = firsts
note_first shard (note.Headed number head) firsts = firsts
note_first shard (note.Executed slot place entry effect) firsts = with_first_execution shard (Did slot place entry (effect_of effect)) firsts

-- the first executions, after notes of a node of the shard
abbrev pub noted_firsts : ℕ → List Note → List Execution → List Execution
noted_firsts shard [] firsts = firsts
noted_firsts shard (told ∷ notes) firsts = noted_firsts shard notes (note_first shard told firsts)

abbrev pub note_aborted : Note → List Bytes → List Bytes
note_aborted (note.Dropped cause) aborted = aborted
note_aborted (note.Viewed slot view) aborted = aborted
note_aborted (note.Headed number head) aborted = aborted
note_aborted (note.Executed slot place entry effect) aborted = with_abort entry (effect_of effect) aborted

-- the sessions on which an abort was decided, after notes of a node
abbrev pub noted_aborted : List Note → List Bytes → List Bytes
noted_aborted [] aborted = aborted
noted_aborted (told ∷ notes) aborted = noted_aborted notes (note_aborted told aborted)

-- the lines of an event, by what the code has at hand
abbrev pub told_text : Bool → ℕ → ℕ → NodeId → List Note → ℕ → List Parcel → Bytes
told_text traced event line me notes number sent =
    (if_traced traced (at_line event line) ++ notes_text traced me notes) ++ if_traced traced (sent_lines number sent)

-- the history took in the executions of these notes
pub record IsTold (me : NodeId) (notes : List Note) (old new : KeptHistory) : Type 0 where
  pub kept : (setup : Setup) (firsts : List Execution) → me.shard < old.config.shards
      → KeepsHistory setup firsts old → KeepsHistory setup (noted_firsts me.shard notes firsts) new
  pub aborted : new.aborted ≡ noted_aborted notes old.aborted
  pub config : new.config ≡ old.config
