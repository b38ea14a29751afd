-- Which bytes are the body of a message.
use Rattle.std.specs.Prelude.{◌≡◌, ℕ, Bool, ◌&&◌, ◌==◌, List, length, Option, Some, None, if◌then◌else◌}
use Rattle.cs_base.specs.Fields.{whole_at}
use Rattle.cs_base.specs.declared.version.Version.{Version}
use Rattle.cs_wire_message.specs.declared.kinds.TheConstants.{ASK}
use Rattle.cs_wire_message.specs.declared.message.Message.{Message}
use Rattle.cs_wire_message.specs.declared.message.Message.TheVariants as message
use Rattle.cs_wire_message.specs.Message.{kind_of, body_of, MessageFits}
use Rattle.cs_wire_message.specs.Reading.{message_at}

-- a message that fits, of this kind and with this body
pub record Has (version : Version) (number : ℕ) (bytes : List ℕ) (m : Message) : Type 0 where
  pub kind : kind_of m ≡ number
  pub body : body_of version m ≡ bytes
  pub fits : MessageFits version m

abbrev pub IsBody : Version → ℕ → List ℕ → Type 0
IsBody version kind body = (m : Message) × Has version kind body m

-- the body of no byte is that of asking for a dummy
abbrev pub is_dummy_question : ℕ → List ℕ → Bool
is_dummy_question kind body = kind == ASK && length body == 0

-- the message of this kind with this body
abbrev pub message_whole : Version → ℕ → List ℕ → Option Message
message_whole version kind body =
    if is_dummy_question kind body then Some (message.Ask None) else whole_at (message_at version kind) body
