-- What a cluster does, one deed after the other.
use Rattle.std.specs.Prelude.{ℕ, ◌+◌, not, ◌==◌, List, [], ◌∷◌, ◌++◌, map, length, filter}
use Rattle.cs_base.specs.declared.config.Config.{Config}
use Rattle.cs_base.specs.declared.node_id.NodeId.{NodeId}
use Rattle.cs_config.specs.declared.plan.Plan.{Plan}
use Rattle.cs_wire.specs.AllNames.{nodes_of}
use Rattle.cs_spawn.specs.Words.{node_words, client_words, node_title, client_title}

-- a child is started with these words; or the child of this number, which is called so, is waited for, and its line
-- printed
pub data ClusterDeed : Type 0 where
  Start : (words : List (List ℕ)) → ClusterDeed
  Wait : (title : List ℕ) → (number : ℕ) → ClusterDeed

-- each with its number, counted from this one
abbrev pub numbered : {A : Type 0} → ℕ → List A → List (A × ℕ)
numbered {A} first [] = []
numbered {A} first (x ∷ xs) = (x, first) ∷ numbered (first + 1) xs

abbrev pub node_starts : Plan → List NodeId → List ClusterDeed
node_starts plan nodes = map (λ me. Start (node_words plan me)) nodes

-- a client is started for each call, and waited for before the next; the calls and the children count from these
abbrev pub call_deeds : Plan → ℕ → ℕ → List (List ℕ) → List ClusterDeed
call_deeds plan number child [] = []
call_deeds plan number child (call ∷ calls) =
    Start (client_words plan call) ∷ Wait (client_title number) child ∷ call_deeds plan (number + 1) (child + 1) calls

-- nodes with the numbers of their children
abbrev pub node_waits : List (NodeId × ℕ) → List ClusterDeed
node_waits running = map (λ node. Wait (node_title node.0) node.1) running

-- All nodes are started, the calls are run, and then the nodes are waited for. The first node's child has this number.
abbrev pub cluster_deeds : Plan → Config → ℕ → List ClusterDeed
cluster_deeds plan config first =
    let nodes = nodes_of config in
    node_starts plan nodes
    ++ (call_deeds plan 0 (first + length nodes) plan.calls ++ node_waits (numbered first nodes))

-- the words of those that are started
abbrev pub words_in : List ClusterDeed → List (List (List ℕ))
words_in [] = []
words_in (Start words ∷ deeds) = words ∷ words_in deeds
words_in (Wait title number ∷ deeds) = words_in deeds

-- the children that are left: each that is started, with the next number, until it is waited for
abbrev pub left_after : List ℕ → ℕ → List ClusterDeed → List ℕ
left_after left next [] = left
left_after left next (Start words ∷ deeds) = left_after (left ++ next ∷ []) (next + 1) deeds
left_after left next (Wait title number ∷ deeds) = left_after (filter (λ n. not (n == number)) left) next deeds
