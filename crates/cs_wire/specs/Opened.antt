-- Opening as a function, and the keys of a master key as a value.
use Rattle.std.specs.Prelude.{ℕ, List, [], ◌∷◌, Option, Some, None, Result, Ok, Err, if◌then◌else◌}
use Rattle.cs_base.specs.declared.config.Config.{Config}
use Rattle.cs_base.specs.declared.node_id.NodeId.{NodeId}
use Rattle.cs_base.specs.declared.version.Version.{Version}
use Rattle.cs_base.specs.Version.{version_of}
use Rattle.cs_wire_message.specs.declared.message.Message.{Message}
use Rattle.cs_wire_message.specs.Body.{message_whole}
use Rattle.cs_wire.specs.declared.head.Head.{Head}
use Rattle.cs_wire.specs.declared.keys.Row.{Row}
use Rattle.cs_wire.specs.declared.keys.Keys.{Keys}
use Rattle.cs_wire.specs.declared.opening.OpenError.{OpenError}
use Rattle.cs_wire.specs.declared.opening.OpenError.TheVariants as errors
use Rattle.cs_wire.specs.Datagram.{body_in}
use Rattle.cs_wire.specs.Heads.{head_seen}
use Rattle.cs_wire.specs.Keys.{row_between}
use Rattle.cs_base.specs.NodeId.{same_name}
use Rattle.cs_wire.specs.Opens.{open_fault}
use Rattle.cs_wire.specs.AllNames.{names_of}

-- ---- opening

-- who says what, or the first test that fails
abbrev pub Opened : Type 0
Opened = Result (NodeId × Message) OpenError

abbrev pub said_by : NodeId → Option Message → Opened
said_by from (Some m) = Ok (from, m)
said_by from None = Err errors.Body

-- past the tests of the head: the body is that of a message of its kind, or none
abbrev pub opened_body : Version → List ℕ → Option Head → Opened
opened_body version bytes None = Err errors.Short
opened_body version bytes (Some head) = said_by head.from (message_whole version head.kind (body_in bytes))

abbrev pub unless_fault : Option OpenError → Opened → Opened
unless_fault (Some error) later = Err error
unless_fault None later = later

abbrev pub opened : Keys → List ℕ → Opened
opened keys bytes = unless_fault (open_fault keys bytes) (opened_body keys.version bytes (head_seen bytes))

-- ---- the keys of a master key

-- what I share with these, but for myself
abbrev pub rows_with : List ℕ → NodeId → List NodeId → List Row
rows_with master me [] = []
rows_with master me (peer ∷ peers) =
    if same_name peer me then rows_with master me peers else row_between master me peer ∷ rows_with master me peers

abbrev pub keys_of_master : Config → List ℕ → NodeId → Keys
keys_of_master config master me = record {
  me = me;
  rows = rows_with master me (names_of config);
  version = version_of config.version;
}
