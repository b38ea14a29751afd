-- The net of one master key is a net of a deployment, and so is one in which each name holds keys of its own.
use Rattle.std.proofs.Common.{refl}
use Rattle.std.proofs.lemmas.Bool.{and_parts}
use Rattle.std.specs.Prelude.{List}
use Rattle.cs_base.specs.declared.config.Config.{Config}
use Rattle.cs_base.specs.declared.node_id.NodeId.{NodeId}
use Rattle.cs_base.specs.NodeId.{is_node}
use Rattle.cs_wire.specs.declared.keys.Keys.{Keys}
use Rattle.cs_base.specs.Version.{version_of}
use Rattle.cs_wire.specs.Keys.{key_between, row_of}
use Rattle.cs_wire.specs.Opened.{keys_of_master}
use Rattle.cs_ledger.specs.Ledger.{Bytes}
use Rattle.cs_node_rules.specs.Net.{in_version, net_of}
use Rattle.cs_world_law.specs.Worlds.{IsNet, key_held, net_of_keys}

pub master_net : (config : Config) (master : Bytes) (liars : List NodeId) → IsNet config (net_of config master liars)
master_net config master liars = record {
  nodes = λ name e. (and_parts (is_node config name) _ e).0;
  keys = keys_of_master config master;
  version = refl;
  editions = λ me. refl;
  opens = λ me bytes. refl;
  key = key_between master;
  seals = λ from to kind body. refl;
}

pub keyed_net : (config : Config) (keys : NodeId → Keys) (liars : List NodeId)
    → IsNet config (net_of_keys config keys liars)
keyed_net config keys liars = record {
  nodes = λ name e. (and_parts (is_node config name) _ e).0;
  keys = λ me. in_version (version_of config.version) (keys me);
  version = refl;
  editions = λ me. refl;
  opens = λ me bytes. refl;
  key = λ from to. key_held (row_of to (keys from));
  seals = λ from to kind body. refl;
}
