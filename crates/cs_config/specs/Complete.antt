-- Which lists of peers a node or client of a configuration may have.
use Rattle.std.specs.Prelude.{Bool, ◌&&◌, ◌||◌, List}
use Rattle.std.specs.List.{list_all}
use Rattle.cs_base.specs.declared.config.Config.{Config}
use Rattle.cs_base.specs.declared.node_id.NodeId.{NodeId}
use Rattle.cs_base.specs.NodeId.{is_named, same_name}
use Rattle.cs_wire.specs.Keys.{Listed, stands}
use Rattle.cs_wire.specs.AllNames.{nodes_of}

-- the node stands in the list, or is me
abbrev pub is_held : NodeId → List Listed → NodeId → Bool
is_held me list node = same_name node me || stands node list

-- each peer is a node or client of the configuration, and each of its nodes is a peer or me
abbrev pub is_complete : Config → NodeId → List Listed → Bool
is_complete config me list =
    list_all (λ peer. is_named config peer.0) list
    && list_all (is_held me list) (nodes_of config)
