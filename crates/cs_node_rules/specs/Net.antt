-- What goes between nodes and clients.
use Rattle.std.specs.Prelude.{ℕ, Bool, not, ◌&&◌, List}
use Rattle.std.specs.List.{list_any}
use Rattle.cs_base.specs.declared.config.Config.{Config}
use Rattle.cs_base.specs.declared.node_id.NodeId.{NodeId}
use Rattle.cs_base.specs.declared.version.Version.{Version}
use Rattle.cs_base.specs.NodeId.{is_node, same_name}
use Rattle.cs_base.specs.Version.{version_of}
use Rattle.cs_wire_message.specs.declared.message.Message.{Message}
use Rattle.cs_wire_message.specs.Message.{kind_of, body_of}
use Rattle.cs_wire.specs.Keys.{key_between}
use Rattle.cs_wire.specs.declared.keys.Keys.{Keys}
use Rattle.cs_wire.specs.Opened.{Opened, opened, keys_of_master}
use Rattle.cs_wire.specs.Datagram.{datagram_with}
use Rattle.cs_ledger.specs.Ledger.{Bytes}

-- how datagrams are made and opened, and who is honest
pub record Net : Type 0 where
  pub version : Version  -- in which messages are written
  pub datagram : NodeId → NodeId → ℕ → Bytes → Bytes  -- from a name to another, of this kind and with this body
  pub opened : NodeId → Bytes → Opened  -- what bytes say to a name
  pub is_honest : NodeId → Bool

-- the datagram of a message
abbrev pub sealed_by_net : Net → NodeId → NodeId → Message → Bytes
sealed_by_net net from to m = net.datagram from to (kind_of m) (body_of net.version m)

-- keys as they are used in a version
abbrev pub in_version : Version → Keys → Keys
in_version version keys = record keys { version = version }

-- the net of a configuration in its version, under one master key, with these liars
abbrev pub net_of : Config → Bytes → List NodeId → Net
net_of config master liars = record {
  version = version_of config.version;
  datagram = λ from to kind body.
      datagram_with (version_of config.version) (key_between master from to) from to kind body;
  opened = λ me bytes. opened (keys_of_master config master me) bytes;
  is_honest = λ name. is_node config name && not (list_any (λ liar. same_name liar name) liars);
}
