-- A key file: whose keys it has, and those that are shared with each peer.
use Rattle.std.specs.Prelude.{ℕ, ◌&&◌, is_none, List, [], map, Result, Ok, Err, if◌then◌else◌}
use Rattle.toml.specs.Data.{Members}
use Rattle.cs_base.specs.declared.config.Config.{Config}
use Rattle.cs_base.specs.declared.node_id.NodeId.{NodeId}
use Rattle.cs_base.specs.NodeId.{is_named}
use Rattle.cs_base.specs.declared.version.Version.TheVariants.{One}
use Rattle.cs_wire.specs.Keys.{Listed, row_listed, peer_twice}
use Rattle.cs_wire.specs.declared.keys.Keys.{Keys}
use Rattle.cs_config.specs.Reading.{◌>>=◌, toml_table_of, one_of, each_of}
use Rattle.cs_config.specs.declared.error.FileField.TheVariants as field
use Rattle.cs_config.specs.declared.error.ConfigError.{ConfigError}
use Rattle.cs_config.specs.declared.error.ConfigError.TheVariants.{Field}
use Rattle.cs_config.specs.Peer.{name_in, peer_in}
use Rattle.cs_config.specs.Complete.{is_complete}

-- whose keys they are: a node or a client of the configuration
abbrev pub me_in : Config → Members → Result NodeId ConfigError
me_in config members = do
  name ← one_of name_in field.Me members
  if is_named config name.0 then Ok name.0 else Err (Field field.Me)

-- each peer, as it stands there
abbrev pub peers_in : Members → Result (List Listed) ConfigError
peers_in members = do
  peers ← each_of peer_in field.Peers members
  Ok (map (λ peer. peer.0) peers)

-- the keys, in version 1, of a list that is complete, and in which no peer stands twice, or is me
abbrev pub listed_keys : Config → NodeId → List Listed → Result Keys ConfigError
listed_keys config me list =
    if is_complete config me list && is_none (peer_twice me [] 0 list)
    then Ok (record { me = me; rows = map row_listed list; version = One })
    else Err (Field field.Peers)

-- what a key file of a configuration says, or why it is refused
abbrev pub keys_of : Config → List ℕ → Result Keys ConfigError
keys_of config bytes = do
  members ← toml_table_of bytes
  me ← me_in config members
  list ← peers_in members
  listed_keys config me list
