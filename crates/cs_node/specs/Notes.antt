-- What the marks of an event tell, and what they say to others.
use Rattle.std.specs.Prelude.{◌≡◌, List, [], ◌∷◌, ◌++◌, IsSome}
use Rattle.cs_base.specs.declared.node_id.NodeId.{NodeId}
use Rattle.cs_tx_types.specs.Session.{ActionFits}
use Rattle.cs_wire_message.specs.declared.message.Message.{Message}
use Rattle.cs_base.specs.declared.version.Version.TheVariants.{One}
use Rattle.cs_wire_message.specs.Message.{MessageFits}
use Rattle.cs_wire.specs.declared.input.Out.{Out}
use Rattle.cs_wire.specs.declared.keys.Keys.{Keys}
use Rattle.cs_wire.specs.Keys.{row_of}
use Rattle.cs_node_state.specs.Bench.{effect_from}
use Rattle.cs_node_rules.specs.Net.{Net, sealed_by_net}
use Rattle.cs_node_rules.specs.Signs.{Sign, Dropped, Took, Entered, Viewed, Did, Headed, Kept, Sent}
use Rattle.cs_node.specs.declared.draft.Note.{Note}
use Rattle.cs_node.specs.declared.draft.Note.TheVariants as note
use Rattle.cs_node.specs.declared.draft.Said.{Said}
use Rattle.cs_node.specs.Drafts.{Draft}

-- what signs tell, the oldest first; lists of signs are newest first
abbrev pub notes_of : List Sign → List Note
notes_of [] = []
notes_of (Dropped cause ∷ past) = notes_of past ++ note.Dropped cause ∷ []
notes_of (Took sender vote x ∷ past) = notes_of past
notes_of (Entered x ∷ past) = notes_of past
notes_of (Viewed slot view ∷ past) = notes_of past ++ note.Viewed slot view ∷ []
notes_of (Did slot place entry effect ∷ past) = notes_of past ++ note.Executed slot place entry (effect_from effect) ∷ []
notes_of (Headed number head ∷ past) = notes_of past ++ note.Headed number head ∷ []
notes_of (Kept index checkpoint ∷ past) = notes_of past
notes_of (Sent to message ∷ past) = notes_of past

-- the datagrams that signs send, the oldest first
abbrev pub outs_of : Net → NodeId → List Sign → List Out
outs_of net me [] = []
outs_of net me (Dropped cause ∷ past) = outs_of net me past
outs_of net me (Took sender vote x ∷ past) = outs_of net me past
outs_of net me (Entered x ∷ past) = outs_of net me past
outs_of net me (Viewed slot view ∷ past) = outs_of net me past
outs_of net me (Did slot place entry effect ∷ past) = outs_of net me past
outs_of net me (Headed number head ∷ past) = outs_of net me past
outs_of net me (Kept index checkpoint ∷ past) = outs_of net me past
outs_of net me (Sent to message ∷ past) =
    outs_of net me past ++ record { to = to; bytes = sealed_by_net net me to message } ∷ []

-- ---- while an event goes on

-- what signs say, before it is sealed: who is told what
abbrev pub said_of : List Sign → List (NodeId × Message)
said_of [] = []
said_of (Dropped cause ∷ past) = said_of past
said_of (Took sender vote x ∷ past) = said_of past
said_of (Entered x ∷ past) = said_of past
said_of (Viewed slot view ∷ past) = said_of past
said_of (Did slot place entry effect ∷ past) = said_of past
said_of (Headed number head ∷ past) = said_of past
said_of (Kept index checkpoint ∷ past) = said_of past
said_of (Sent to message ∷ past) = said_of past ++ (to, message) ∷ []

-- each of these is told it
abbrev pub to_each : List NodeId → Message → List (NodeId × Message)
to_each [] message = []
to_each (to ∷ more) message = (to, message) ∷ to_each more message

abbrev pub spoken : List Said → List (NodeId × Message)
spoken [] = []
spoken (said ∷ more) = to_each said.to said.message ++ spoken more

-- sealed
abbrev pub outs_for : Net → NodeId → List (NodeId × Message) → List Out
outs_for net me [] = []
outs_for net me (said ∷ more) = record { to = said.0; bytes = sealed_by_net net me said.0 said.1 } ∷ outs_for net me more

-- there are keys to all who are told something
abbrev pub AllReached : Keys → List (NodeId × Message) → Type 0
AllReached keys [] = Unit {0}
AllReached keys (said ∷ more) = IsSome (row_of said.0 keys) × AllReached keys more

abbrev pub nothing_said : Draft
nothing_said = record { notes = []; said = [] }

-- a draft grew by what these signs tell and say
pub record TellsSigns (signs : List Sign) (old new : Draft) : Type 0 where
  pub notes : new.notes ≡ old.notes ++ notes_of signs
  pub said : spoken new.said ≡ spoken old.said ++ said_of signs

abbrev pub NoteFits : Note → Type 0
NoteFits (note.Dropped cause) = Unit {0}
NoteFits (note.Viewed slot view) = Unit {0}
NoteFits (note.Executed slot place action effect) = ActionFits action  -- an executed action has an encoding
NoteFits (note.Headed number head) = Unit {0}

abbrev pub NotesFit : List Note → Type 0
NotesFit [] = Unit {0}
NotesFit (n ∷ notes) = NoteFits n × NotesFit notes

-- what is said has a body
abbrev pub AllSaidFit : List Said → Type 0
AllSaidFit [] = Unit {0}
AllSaidFit (said ∷ more) = MessageFits One said.message × AllSaidFit more

pub record DraftFits (draft : Draft) : Type 0 where
  pub notes : NotesFit draft.notes
  pub said : AllSaidFit draft.said
