-- The strings that are hashed for a world, and that no two of them have one hash.
use Rattle.std.specs.Prelude.{◌≡◌, ℕ, List, [], ◌∷◌, ◌++◌, map, Some, Ok, Err, slice_get}
use Rattle.std.specs.Int.{w16, w32, to_be_bytes}
use Rattle.sha2.specs.Sha256.{sha256}
use Rattle.cs_base.specs.Lists.{IsIn}
use Rattle.cs_base.specs.declared.version.Version.{Version}
use Rattle.cs_tx_value.specs.declared.object.Object.{Object}
use Rattle.cs_tx_value.specs.Object.{object_encoding}
use Rattle.cs_tx_types.specs.declared.trace.Trace.{Trace}
use Rattle.cs_tx_types.specs.declared.session.Session.{Session}
use Rattle.cs_tx_types.specs.declared.entry.Entry.{Entry}
use Rattle.cs_tx_types.specs.Transaction.{tx_encoding}
use Rattle.cs_tx_types.specs.Session.{session_encoding, session_in}
use Rattle.cs_tx_types.specs.Entry.{entry_encoding}
use Rattle.cs_tx.specs.Digest.{digest_of_tx}
use Rattle.cs_order.specs.Deeds.{Deed, Took_in, Advanced, Echoed, Proposing, Ticked, Resent, Replied, Cut}
use Rattle.cs_base.specs.declared.node_id.NodeId.{NodeId}
use Rattle.cs_wire_message.specs.declared.message.Message.{Message}
use Rattle.cs_wire_message.specs.declared.message.Message.TheVariants as message
use Rattle.cs_wire.specs.Opened.{Opened}
use Rattle.cs_ledger.specs.Ledger.{Bytes}
use Rattle.cs_node_rules.specs.Site.{Datagram, Tick, Mark, In, Ordered, Plain, Site}
use Rattle.cs_node_rules.specs.World.{Happening}

-- the sessions in a message
abbrev pub sessions_in : Message → List Session
sessions_in (message.Submit x) = x ∷ []
sessions_in (message.Propose slot view entry) = map session_in entry.actions
sessions_in (message.Voted vote asks x) = x ∷ []
sessions_in (message.Done slot entry) = map session_in entry.actions
sessions_in m = []

-- the entry of a message, if it has one
abbrev pub entries_in : Message → List Entry
entries_in (message.Propose slot view entry) = entry ∷ []
entries_in (message.Done slot entry) = entry ∷ []
entries_in m = []

abbrev pub in_opened : {A : Type 0} → (Message → List A) → Opened → List A
in_opened {A} those (Ok said) = those said.1
in_opened {A} those (Err error) = []

-- what stood in the datagrams that a node was given
abbrev pub given : {A M : Type 0} → Site M → (Message → List A) → NodeId → List (Mark M) → List A
given {A} {M} site those me [] = []
given {A} {M} site those me (In (Datagram bytes) ∷ past) =
    in_opened those (site.net.opened me bytes) ++ given site those me past
given {A} {M} site those me (In Tick ∷ past) = given site those me past
given {A} {M} site those me (Ordered deed ∷ past) = given site those me past
given {A} {M} site those me (Plain sign ∷ past) = given site those me past

abbrev pub entries_of : {M : Type 0} → Site M → Deed M → List Entry
entries_of {M} site (Proposing proposed sent) = site.entry_in proposed ∷ []
entries_of {M} site (Took_in from message) = []
entries_of {M} site (Advanced step sent) = []
entries_of {M} site (Echoed sent) = []
entries_of {M} site (Ticked on sent) = []
entries_of {M} site (Resent sent) = []
entries_of {M} site (Replied slot to sent) = []
entries_of {M} site (Cut slot) = []

-- the entries that nodes proposed
abbrev pub entries_proposed : {M : Type 0} → Site M → List (Mark M) → List Entry
entries_proposed {M} site [] = []
entries_proposed {M} site (In input ∷ past) = entries_proposed site past
entries_proposed {M} site (Ordered deed ∷ past) = entries_of site deed ++ entries_proposed site past
entries_proposed {M} site (Plain sign ∷ past) = entries_proposed site past

abbrev pub known_sessions : {M : Type 0} → Site M → List (Happening M) → List Session
known_sessions {M} site [] = []
known_sessions {M} site (h ∷ past) = given site sessions_in h.node h.marks ++ known_sessions site past

abbrev pub known_entries : {M : Type 0} → Site M → List (Happening M) → List Entry
known_entries {M} site [] = []
known_entries {M} site (h ∷ past) =
    given site entries_in h.node h.marks ++ (entries_proposed site h.marks ++ known_entries site past)

-- a string that is hashed, its letter in front: of a genesis object (G), of a session (S), of its transaction (T),
-- of an output by its trace and its place there (O), of an entry in this version (E)
pub data IsHashed (version : Version) (genesis : List Object) (sessions : List Session) (entries : List Entry)
    : Bytes → Type 0 where
  OfGenesis : (place : ℕ) (object : Object) → slice_get genesis place ≡ Some object →
      IsHashed version genesis sessions entries (71 ∷ (to_be_bytes w32 place ++ object_encoding object))
  OfSession : (x : Session) → IsIn x sessions → IsHashed version genesis sessions entries (83 ∷ session_encoding x)
  OfTransaction : (x : Session) → IsIn x sessions → IsHashed version genesis sessions entries (84 ∷ tx_encoding x.tx)
  OfOutput : (x : Session) → IsIn x sessions → (number place : ℕ) (trace : Trace) (object : Object) →
      slice_get x.tx.traces number ≡ Some trace → slice_get trace.outputs place ≡ Some object →
      IsHashed version genesis sessions entries
      (79 ∷ (digest_of_tx x.tx ++ (to_be_bytes w16 number ++ to_be_bytes w16 place)))
  OfEntry : (entry : Entry) → IsIn entry entries →
      IsHashed version genesis sessions entries (69 ∷ entry_encoding version entry)

-- any two of them with one hash are one
abbrev pub NoCollision : {M : Type 0} → Site M → List Object → List (Happening M) → Type 0
NoCollision {M} site genesis world =
    (a b : Bytes) → IsHashed site.setup.version genesis (known_sessions site world) (known_entries site world) a →
    IsHashed site.setup.version genesis (known_sessions site world) (known_entries site world) b →
    sha256 a ≡ sha256 b → a ≡ b
