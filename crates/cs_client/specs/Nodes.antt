-- The nodes of shards, in the order of the shards, and those of each by rising index; numbers in their order.
use Rattle.std.specs.Prelude.{ℕ, zero, suc, ◌+◌, ◌*◌, List, [], ◌∷◌, ◌++◌}
use Rattle.std.specs.List.{flat_map}
use Rattle.cs_base.specs.declared.node_id.NodeId.{NodeId}
use Rattle.cs_base.specs.NodeId.{members_below}

abbrev pub nodes_in : ℕ → ℕ → List NodeId
nodes_in f shard = members_below shard (3 * f + 1)

abbrev pub nodes_of_shards : ℕ → List ℕ → List NodeId
nodes_of_shards f shards = flat_map (nodes_in f) shards

-- so many numbers, from 0 on
abbrev pub numbers_below : ℕ → List ℕ
numbers_below zero = []
numbers_below (suc n) = numbers_below n ++ n ∷ []
