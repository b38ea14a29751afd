-- The names of nodes and clients.
use Rattle.std.specs.List.{before_first, after_first}
use Rattle.std.specs.Str.{bytes_eq}
use Rattle.std.specs.Prelude.{ℕ, zero, suc, ◌*◌, Bool, ◌==◌, nat_lt, nat_le, ◌&&◌, ◌||◌, List, [], ◌∷◌, ◌++◌, Option, Some, None, codes, if◌then◌else◌}
use Rattle.std.specs.Fmt.{decimal}
use Rattle.cs_base.specs.Codes.{number_of}
use Rattle.cs_base.specs.declared.node_id.TheConstants.{CLIENT_SHARD, CLIENTS}
use Rattle.cs_base.specs.declared.node_id.NodeId.{NodeId}
use Rattle.cs_base.specs.declared.config.Config.{Config}

-- a client, which every configuration has
abbrev pub is_client : NodeId → Bool
is_client id = id.shard == CLIENT_SHARD && nat_lt id.index CLIENTS

-- a node of a shard of the configuration, of which there are 3f+1
abbrev pub is_node : Config → NodeId → Bool
is_node config id = nat_lt id.shard config.shards && nat_le id.index (3 * config.f)

-- a node or a client
abbrev pub is_named : Config → NodeId → Bool
is_named config id = is_node config id || is_client id

-- the text of a name
abbrev pub node_text : NodeId → List ℕ
node_text id =
    if id.shard == CLIENT_SHARD then codes "c." ++ decimal id.index
    else decimal id.shard ++ codes "." ++ decimal id.index

-- the number that stands for clients names no shard
abbrev pub unless_client : Option ℕ → Option ℕ
unless_client None = None
unless_client (Some shard) = if shard == CLIENT_SHARD then None else Some shard

-- the shard that stands in front of the dot
abbrev pub shard_named : List ℕ → Option ℕ
shard_named front = if bytes_eq front (codes "c") then Some CLIENT_SHARD else unless_client (number_of front)

-- the name of these numbers, where each has 16 bits
abbrev pub node_at : Option ℕ → Option ℕ → Option NodeId
node_at None index = None
node_at (Some shard) None = None
node_at (Some shard) (Some index) =
    if nat_le shard 65535 && nat_le index 65535 then Some (record { shard = shard; index = index }) else None

-- the name of which the field is the text
abbrev pub node_of : List ℕ → Option NodeId
node_of field =
    node_at (shard_named (before_first (λ byte. byte == 46) field)) (number_of (after_first (λ byte. byte == 46) field))

abbrev pub same_name : NodeId → NodeId → Bool
same_name a b = a.shard == b.shard && a.index == b.index

-- so many nodes of a shard, by rising index
abbrev pub members_below : ℕ → ℕ → List NodeId
members_below shard zero = []
members_below shard (suc n) = members_below shard n ++ record { shard = shard; index = n } ∷ []
