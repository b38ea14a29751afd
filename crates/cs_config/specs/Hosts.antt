-- A hosts file: where nodes and clients are, and the milliseconds between ticks.
use Rattle.std.specs.Prelude.{ℕ, Bool, true, not, ◌&&◌, List, [], ◌∷◌, map, codes, Option, Some, None, option_map, option_and_then, Result, Ok, Err, if◌then◌else◌}
use Rattle.std.specs.Option.{ok_or, option_or}
use Rattle.std.specs.List.{list_all, list_any}
use Rattle.std.specs.declared.net.ip_addr.IpAddr.{IpAddr}
use Rattle.std.specs.declared.net.ip_addr.IpAddr.TheVariants.{V4, V6}
use Rattle.std.specs.Net.Reader.{read_ipv4, read_ipv6, whole_value}
use Rattle.toml.specs.Data.{Data, Members, get_member, as_integer, as_str, as_table}
use Rattle.cs_base.specs.declared.config.Config.{Config}
use Rattle.cs_base.specs.declared.node_id.NodeId.{NodeId}
use Rattle.cs_base.specs.NodeId.{is_named, same_name}
use Rattle.cs_config.specs.Reading.{◌>>=◌, toml_table_of, each_of, number_between}
use Rattle.cs_config.specs.Named.{node_in, held_at}
use Rattle.cs_config.specs.Names.{field_name}
use Rattle.cs_config.specs.declared.limits.TheConstants.{LEAST_TICK, MOST_TICK}
use Rattle.cs_config.specs.declared.error.FileField.TheVariants as field
use Rattle.cs_config.specs.declared.error.ConfigError.{ConfigError}
use Rattle.cs_config.specs.declared.error.ConfigError.TheVariants.{Field}
use Rattle.cs_config.specs.declared.host.Host.{Host}
use Rattle.cs_config.specs.declared.hosts.Hosts.{Hosts}

-- ---- one host

-- the address that a text writes, of IPv4 or of IPv6
abbrev pub address_of : List ℕ → Option IpAddr
address_of text = option_or
    (option_map (λ octets. V4 (record { octets = octets })) (whole_value (read_ipv4 text)))
    (option_map (λ segments. V6 (record { segments = segments })) (whole_value (read_ipv6 text)))

-- a string that writes one
abbrev pub address_in : Data → Option IpAddr
address_in held = option_and_then address_of (as_str held)

-- a table of the name of a node or a client, and its address
abbrev pub host_at : Members → Option Host
host_at members =
    option_and_then (λ id.
    option_map (λ address. record { 0 = (id, address) }) (held_at address_in (codes "address") members))
    (held_at node_in (codes "name") members)

abbrev pub host_in : Data → Option Host
host_in held = option_and_then host_at (as_table held)

-- ---- all hosts

-- one of these hosts has the name
abbrev pub is_placed : NodeId → List (NodeId × IpAddr) → Bool
is_placed name hosts = list_any (λ host. same_name host.0 name) hosts

-- no name stands twice
abbrev pub are_apart : List (NodeId × IpAddr) → Bool
are_apart [] = true
are_apart (host ∷ later) = not (is_placed host.0 later) && are_apart later

-- nodes and clients of the configuration, each once
abbrev pub hosts_among : Config → List (NodeId × IpAddr) → Result (List (NodeId × IpAddr)) ConfigError
hosts_among config hosts =
    if list_all (λ host. is_named config host.0) hosts && are_apart hosts then Ok hosts else Err (Field field.Hosts)

abbrev pub addresses_in : Config → Members → Result (List (NodeId × IpAddr)) ConfigError
addresses_in config members = do
  hosts ← each_of host_in field.Hosts members
  hosts_among config (map (λ host. host.0) hosts)

-- ---- ticks

-- the number of the field, in its range; the least, where the field isn't there
abbrev pub tick_held : Option Data → Result ℕ ConfigError
tick_held None = Ok LEAST_TICK
tick_held (Some held) = do
  tick ← ok_or (as_integer held) (Field field.Tick)
  number_between field.Tick LEAST_TICK MOST_TICK tick

abbrev pub tick_in : Members → Result ℕ ConfigError
tick_in members = tick_held (get_member (field_name field.Tick) members)

-- ---- the file

-- what a hosts file of a configuration says, or why it is refused
abbrev pub hosts_of : Config → List ℕ → Result Hosts ConfigError
hosts_of config bytes = do
  members ← toml_table_of bytes
  addresses ← addresses_in config members
  tick ← tick_in members
  Ok (record { addresses = addresses; tick = tick })
