-- Names in a key file, and what is shared with a peer.
use Rattle.std.specs.Prelude.{ℕ, List, codes, Option, option_map, option_and_then}
use Rattle.toml.specs.Data.{Data, Members, as_table}
use Rattle.cs_base.specs.declared.node_id.NodeId.{NodeId}
use Rattle.cs_config.specs.Items.{hex_digest}
use Rattle.cs_config.specs.Named.{node_in, held_at}
use Rattle.cs_config.specs.declared.peer.Peer.{Peer}
use Rattle.cs_config.specs.declared.peer.Name.{Name}

-- the name of a node or a client
abbrev pub name_in : Data → Option Name
name_in held = option_map (λ id. record { 0 = id }) (node_in held)

abbrev pub peer_of : NodeId → List ℕ → List ℕ → Peer
peer_of id to from = record { 0 = (id, to, from) }

-- a table of a peer's name, the key to it and the key from it
abbrev pub peer_at : Members → Option Peer
peer_at members =
    option_and_then (λ id.
    option_and_then (λ to.
    option_map (λ from. peer_of id to from) (held_at hex_digest (codes "from") members))
    (held_at hex_digest (codes "to") members))
    (held_at node_in (codes "name") members)

abbrev pub peer_in : Data → Option Peer
peer_in held = option_and_then peer_at (as_table held)
