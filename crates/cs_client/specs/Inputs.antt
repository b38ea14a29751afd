-- What a client is given, and what it hears by it. Of lists of inputs the newest stands first.
use Rattle.std.specs.Prelude.{List, [], ◌∷◌, Option, Some, None, Ok, Err, if◌then◌else◌}
use Rattle.cs_base.specs.Options.{or_else}
use Rattle.cs_base.specs.declared.node_id.NodeId.{NodeId}
use Rattle.cs_base.specs.NodeId.{same_name}
use Rattle.cs_io.specs.declared.link.MemInput.{MemInput}
use Rattle.cs_io.specs.declared.link.MemInput.TheVariants as came
use Rattle.cs_wire.specs.declared.input.Input.{Input as Given}
use Rattle.cs_wire.specs.declared.input.Input.TheVariants as given
use Rattle.cs_wire.specs.declared.keys.Keys.{Keys}
use Rattle.cs_wire.specs.Opened.{Opened, opened}
use Rattle.cs_wire_message.specs.declared.message.Message.{Message}

-- the bytes of a datagram, or the word that some time has passed
abbrev pub ClientInput : Type 0
ClientInput = MemInput

abbrev pub client_input : Given → ClientInput
client_input (given.Datagram bytes) = came.Datagram bytes.now
client_input given.Tick = came.Tick

-- who says what, if anyone
abbrev pub Said : Type 0
Said = Option (NodeId × Message)

abbrev pub said_by_opened : Opened → Said
said_by_opened (Ok said) = Some said
said_by_opened (Err error) = None

-- a datagram says what it opens to
abbrev pub heard : Keys → ClientInput → Said
heard keys (came.Datagram bytes) = said_by_opened (opened keys bytes)
heard keys came.Tick = None

-- what is said, where this node says it
abbrev pub from_node : NodeId → Said → Option Message
from_node node (Some said) = if same_name said.0 node then Some said.1 else None
from_node node None = None

-- what a node says by an input
abbrev pub said_from : Keys → NodeId → ClientInput → Option Message
said_from keys node input = from_node node (heard keys input)

-- what is found in the last input in which something is found
abbrev pub latest : {A : Type 0} → (ClientInput → Option A) → List ClientInput → Option A
latest {A} found [] = None
latest {A} found (input ∷ past) = or_else (found input) (latest found past)

-- a word that was taken back, or wasn't said, is none
abbrev pub or_none : {A : Type 0} → Option (Option A) → Option A
or_none {A} (Some word) = word
or_none {A} None = None
