-- What a node is given, and keys by which it speaks in a net.
use Rattle.std.specs.Prelude.{◌≡◌, ℕ, true, false, Option, Some, None, Ok, Err, IsSome}
use Rattle.cs_base.specs.declared.config.Config.{Config}
use Rattle.cs_base.specs.declared.node_id.NodeId.{NodeId}
use Rattle.cs_base.specs.NodeId.{is_node, same_name}
use Rattle.cs_base.specs.declared.version.Version.TheVariants.{One}
use Rattle.cs_wire.specs.declared.input.Input.{Input as Given}
use Rattle.cs_wire.specs.declared.input.Input.TheVariants as given
use Rattle.cs_wire.specs.declared.keys.Row.{Row}
use Rattle.cs_wire.specs.declared.keys.Keys.{Keys}
use Rattle.cs_wire.specs.Keys.{row_of}
use Rattle.cs_wire.specs.Opened.{Opened, opened}
use Rattle.cs_wire.specs.Datagram.{datagram_with}
use Rattle.cs_ledger.specs.Ledger.{Bytes}
use Rattle.cs_node_rules.specs.Net.{Net}
use Rattle.cs_node_rules.specs.Site.{Input, Datagram, Tick}

abbrev pub input_of : Given → Input
input_of (given.Datagram bytes) = Datagram bytes.now
input_of given.Tick = Tick

-- as whom bytes open
abbrev pub sender_of : Opened → Option NodeId
sender_of (Ok said) = Some said.0
sender_of (Err error) = None

-- The keys open what the net opens for their holder, seal as the net seals, and reach all nodes of the configuration but
-- their holder. A client is answered where a datagram opened as from it, so it has a key then. The net is of version 1.
pub record Speaks (config : Config) (net : Net) (keys : Keys) : Type 0 where
  pub first : net.version ≡ One
  pub opens : (bytes : Bytes) → opened keys bytes ≡ net.opened keys.me bytes
  pub seals : (to : NodeId) (row : Row) → row_of to keys ≡ Some row →
      (kind : ℕ) (body : Bytes) → datagram_with keys.version row.to keys.me to kind body ≡ net.datagram keys.me to kind body
  pub reaches : (to : NodeId) → is_node config to ≡ true → same_name to keys.me ≡ false → IsSome (row_of to keys)
