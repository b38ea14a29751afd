-- What comes of a datagram at the one who is given it.
use Rattle.std.specs.Prelude.{◌≡◌, ℕ, ◌<◌, ◌^◌, Bool, nat_lt, bytes_eq, List, ◌++◌, length, Option, Some, None, Result, Ok, Err, if◌then◌else◌}
use Rattle.cs_base.specs.declared.limits.TheConstants.{LEAST_DATAGRAM}
use Rattle.cs_base.specs.declared.node_id.NodeId.{NodeId}
use Rattle.cs_base.specs.declared.version.Version.{Version}
use Rattle.cs_wire_message.specs.declared.message.Message.{Message}
use Rattle.cs_wire_message.specs.Message.{is_kind, MessageFits}
use Rattle.cs_wire_message.specs.Body.{Has, IsBody}
use Rattle.cs_wire.specs.declared.head.Head.{Head}
use Rattle.cs_wire.specs.declared.keys.Row.{Row}
use Rattle.cs_wire.specs.declared.keys.Keys.{Keys}
use Rattle.cs_wire.specs.declared.opening.OpenError.{OpenError}
use Rattle.cs_wire.specs.declared.opening.OpenError.TheVariants as errors
use Rattle.cs_wire.specs.declared.view.MessageView.{MessageView}
use Rattle.cs_wire.specs.Datagram.{magic_of, sealed, is_sized, has_tag, body_in}
use Rattle.cs_wire.specs.Heads.{head_seen}
use Rattle.cs_wire.specs.Keys.{row_of}
use Rattle.cs_base.specs.NodeId.{same_name}

-- ---- sealing

-- the datagram of a message under the key to its receiver was appended
pub record Seals (keys : Keys) (to : NodeId) (m : Message) (old new : List ℕ) : Type 0 where
  pub row : Row
  pub held : row_of to keys ≡ Some row
  pub is : new ≡ old ++ sealed keys.version row.to keys.me to m

-- ---- opening

-- the numbers of a name have 16 bits
abbrev pub IsName : NodeId → Type 0
IsName name = (name.shard < 2 ^ 16) × (name.index < 2 ^ 16)

-- the bytes are the datagram of a message from a peer, under the key from it
pub record IsSealed (keys : Keys) (bytes : List ℕ) (from : NodeId) (m : Message) : Type 0 where
  pub named : IsName from
  pub mine : IsName keys.me
  pub row : Row
  pub held : row_of from keys ≡ Some row
  pub fits : MessageFits keys.version m
  pub is : bytes ≡ sealed keys.version row.from from keys.me m

-- the first test that fails: this one, or one of the later ones
abbrev pub unless : Bool → OpenError → Option OpenError → Option OpenError
unless test error later = if test then later else Some error

abbrev pub keyed_fault : Head → List ℕ → Option Row → Option OpenError
keyed_fault head bytes None = Some errors.Stranger
keyed_fault head bytes (Some row) =
    unless (is_sized head.size bytes) errors.Length
    (unless (has_tag row.from bytes) errors.Tag None)

abbrev pub head_fault : Keys → List ℕ → Option Head → Option OpenError
head_fault keys bytes None = Some errors.Short
head_fault keys bytes (Some head) =
    unless (bytes_eq head.magic (magic_of keys.version)) errors.Magic
    (unless (is_kind head.kind) errors.Kind
    (unless (same_name head.to keys.me) errors.NotMine
    (keyed_fault head bytes (row_of head.from keys))))

-- the first test before that of the body which fails
abbrev pub open_fault : Keys → List ℕ → Option OpenError
open_fault keys bytes =
    if nat_lt (length bytes) LEAST_DATAGRAM then Some errors.Short else head_fault keys bytes (head_seen bytes)

-- the body is none of its kind
abbrev pub HasNoBody : Version → List ℕ → Option Head → Type 0
HasNoBody version bytes None = Unit {0}
HasNoBody version bytes (Some head) = IsBody version head.kind (body_in bytes) → ⊥

-- the view is of this message, in its version
abbrev pub ShowsMessage : MessageView → Message → Type 0
ShowsMessage view m = Has view.version view.kind view.body.now m

-- what a call answers: a sender and its message where the bytes are that datagram, or else the first test that fails
abbrev pub Opens : Keys → List ℕ → Result (NodeId × MessageView) OpenError → Type 0
Opens keys bytes (Ok found) =
    (m : Message) × IsSealed keys bytes found.0 m × ShowsMessage found.1 m × (found.1.version ≡ keys.version)
Opens keys bytes (Err errors.Body) = (open_fault keys bytes ≡ None) × HasNoBody keys.version bytes (head_seen bytes)
Opens keys bytes (Err errors.Short) = open_fault keys bytes ≡ Some errors.Short
Opens keys bytes (Err errors.Magic) = open_fault keys bytes ≡ Some errors.Magic
Opens keys bytes (Err errors.Kind) = open_fault keys bytes ≡ Some errors.Kind
Opens keys bytes (Err errors.NotMine) = open_fault keys bytes ≡ Some errors.NotMine
Opens keys bytes (Err errors.Stranger) = open_fault keys bytes ≡ Some errors.Stranger
Opens keys bytes (Err errors.Length) = open_fault keys bytes ≡ Some errors.Length
Opens keys bytes (Err errors.Tag) = open_fault keys bytes ≡ Some errors.Tag

-- what the tests before that of the body say
abbrev pub Checks : Result Head OpenError → Option OpenError → Option Head → Type 0
Checks (Ok head) fault found = (fault ≡ None) × (found ≡ Some head)
Checks (Err error) fault found = (fault ≡ Some error) × (error ≡ errors.Body → ⊥)

-- the answer is this sender and this message
abbrev pub OpensAs : Result (NodeId × MessageView) OpenError → NodeId → Message → Type 0
OpensAs (Ok found) sender m = (found.0 ≡ sender) × ShowsMessage found.1 m
OpensAs (Err error) sender m = ⊥
