-- The names of a configuration: those of all its nodes, and of all clients.
use Rattle.std.specs.Prelude.{ℕ, zero, suc, ◌+◌, ◌*◌, Bool, List, [], ◌++◌}
use Rattle.std.specs.List.{list_any}
use Rattle.cs_base.specs.declared.config.Config.{Config}
use Rattle.cs_base.specs.declared.node_id.NodeId.{NodeId}
use Rattle.cs_base.specs.declared.node_id.TheConstants.{CLIENT_SHARD, CLIENTS}
use Rattle.cs_base.specs.NodeId.{members_below, same_name}

-- the members, so many of each, of so many shards
abbrev pub nodes_below : ℕ → ℕ → List NodeId
nodes_below members zero = []
nodes_below members (suc n) = nodes_below members n ++ members_below n members

-- all nodes of a configuration, by shard and index
abbrev pub nodes_of : Config → List NodeId
nodes_of config = nodes_below (3 * config.f + 1) config.shards

-- and then the clients
abbrev pub names_of : Config → List NodeId
names_of config = nodes_of config ++ members_below CLIENT_SHARD CLIENTS

-- whether a name is one of these
abbrev pub has_name : NodeId → List NodeId → Bool
has_name name names = list_any (λ other. same_name other name) names
