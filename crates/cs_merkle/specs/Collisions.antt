-- The strings that are hashed for a tree and for a path, and that they don't collide.
use Rattle.std.specs.Prelude.{◌≡◌, ℕ, ◌-◌, nat_lt, if◌then◌else◌, List, [], ◌∷◌, ◌++◌, length, reverse, Contains}
use Rattle.sha2.specs.Sha256.{sha256}
use Rattle.cs_merkle.specs.Tree.{Tree, Empty, Leaf, Node, split, tree_of, hash, leaf_string, node_string}
use Rattle.cs_merkle.specs.Path.{root_by}

-- those hashed for a tree
abbrev pub strings_in : Tree → List (List ℕ)
strings_in Empty = [] ∷ []
strings_in (Leaf leaf) = leaf_string leaf ∷ []
strings_in (Node left right) =
    node_string (hash left) (hash right) ∷ (strings_in left ++ strings_in right)

-- those hashed along a path from a leaf at a place among n, the path read from the root down
abbrev pub strings_by : ℕ → ℕ → List ℕ → List (List ℕ) → List (List ℕ)
strings_by n place leaf [] = leaf_string leaf ∷ []
strings_by n place leaf (beside ∷ below) =
    let k = split n in
    if nat_lt place k
    then node_string (root_by k place leaf below) beside ∷ strings_by k place leaf below
    else node_string beside (root_by (n - k) (place - k) leaf below)
    ∷ strings_by (n - k) (place - k) leaf below

-- a string hashed for the tree over leaves and one hashed along a path, with one hash, are one
abbrev pub NoTreeCollision : List (List ℕ) → ℕ → List ℕ → List (List ℕ) → Type 0
NoTreeCollision leaves place leaf path = (a b : List ℕ) → Contains (strings_in (tree_of leaves)) a →
    Contains (strings_by (length leaves) place leaf (reverse path)) b → sha256 a ≡ sha256 b → a ≡ b
