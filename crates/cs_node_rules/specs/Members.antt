-- The nodes of shards, as a node names the others.
use Rattle.std.specs.Prelude.{ℕ, zero, suc, ◌+◌, ◌*◌, ◌==◌, nat_lt, Bool, not, ◌&&◌, if◌then◌else◌, List, [], ◌∷◌, ◌++◌}
use Rattle.cs_base.specs.declared.node_id.NodeId.{NodeId}
use Rattle.cs_base.specs.NodeId.{same_name, members_below}

-- the node is another member of the shard
abbrev pub is_other_member : ℕ → NodeId → NodeId → Bool
is_other_member f me name = name.shard == me.shard && (nat_lt name.index (3 * f + 1) && not (name.index == me.index))

-- all nodes of these shards
abbrev pub members : ℕ → List ℕ → List NodeId
members f [] = []
members f (shard ∷ shards) = members_below shard (3 * f + 1) ++ members f shards

abbrev pub except : NodeId → List NodeId → List NodeId
except me [] = []
except me (name ∷ names) = if same_name name me then except me names else name ∷ except me names

-- all but the node itself
abbrev pub others : ℕ → NodeId → List ℕ → List NodeId
others f me shards = except me (members f shards)
