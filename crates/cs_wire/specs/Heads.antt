-- The head of a datagram: what stands at its front.
use Rattle.std.specs.Prelude.{ℕ, List, Option, Some, None}
use Rattle.std.specs.Int.{w8, w16, w32}
use Rattle.cs_base.specs.declared.node_id.NodeId.{NodeId}
use Rattle.cs_base.specs.Fields.{Found, ◌<$>◌, number_at, bytes_at, pair_at}
use Rattle.cs_wire.specs.declared.head.Head.{Head}

abbrev pub name_of : ℕ × ℕ → NodeId
name_of p = record { shard = p.0; index = p.1 }

unfoldable pub node_name_at : List ℕ → Found NodeId
node_name_at bytes = name_of <$> pair_at (number_at w16) (number_at w16) bytes

abbrev pub head_from : List ℕ × (ℕ × (NodeId × (NodeId × ℕ))) → Head
head_from p = record { magic = p.0; kind = p.1.0; from = p.1.1.0; to = p.1.1.1.0; size = p.1.1.1.1 }

-- magic, kind, sender, receiver, length of the body
unfoldable pub head_at : List ℕ → Found Head
head_at bytes =
    head_from <$> pair_at (bytes_at 4) (pair_at (number_at w8) (pair_at node_name_at (pair_at node_name_at (number_at w32))))
    bytes

abbrev pub first : Found Head → Option Head
first (Some found) = Some found.0
first None = None

-- the head of 17 bytes or more
abbrev pub head_seen : List ℕ → Option Head
head_seen bytes = first (head_at bytes)
