-- Audit paths (RFC 6962, section 2.1.1), and what they show.
use Rattle.std.specs.Prelude.{◌≡◌, ℕ, zero, suc, ◌+◌, ◌-◌, ◌<◌, nat_lt, if◌then◌else◌, List, [], ◌∷◌, ◌++◌, length, reverse}
use Rattle.cs_merkle.specs.Tree.{Tree, Empty, Leaf, Node, split, tree_of, hash, leaf_hash, node_hash}

-- how many leaves a tree has
abbrev pub size : Tree → ℕ
size Empty = 0
size (Leaf leaf) = 1
size (Node left right) = size left + size right

-- on the way from the leaf at a place up to the root, the hashes of the trees beside it
abbrev pub path_in : Tree → ℕ → List (List ℕ)
path_in Empty place = []
path_in (Leaf leaf) place = []
path_in (Node left right) place =
    if nat_lt place (size left) then path_in left place ++ hash right ∷ []
    else path_in right (place - size left) ++ hash left ∷ []

-- the audit path of the leaf at a place
unfoldable pub audit_path : List (List ℕ) → ℕ → List (List ℕ)
audit_path leaves place = path_in (tree_of leaves) place

-- How long the path of a place among n leaves is: one more than in the half where it lies.
-- The first argument is no less than n.
abbrev pub path_length_in : ℕ → ℕ → ℕ → ℕ
path_length_in height zero place = 0
path_length_in height (suc zero) place = 0
path_length_in zero (suc (suc more)) place = 0
path_length_in (suc height) (suc (suc more)) place =
    let n = suc (suc more) in
    let k = split n in
    if nat_lt place k then path_length_in height k place + 1
    else path_length_in height (n - k) (place - k) + 1

unfoldable pub path_length : ℕ → ℕ → ℕ
path_length n place = path_length_in n n place

-- the root to which a path leads from a leaf at a place among n, the path read from the root down
abbrev pub root_by : ℕ → ℕ → List ℕ → List (List ℕ) → List ℕ
root_by n place leaf [] = leaf_hash leaf
root_by n place leaf (beside ∷ below) =
    let k = split n in
    if nat_lt place k then node_hash (root_by k place leaf below) beside
    else node_hash beside (root_by (n - k) (place - k) leaf below)

-- a path, from the leaf up, shows that a leaf is at this place among the n leaves under a root
pub record ShowsLeaf (root : List ℕ) (n place : ℕ) (leaf : List ℕ) (path : List (List ℕ)) : Type 0 where
  pub within : place < n
  pub long : length path ≡ path_length n place
  pub leads : root_by n place leaf (reverse path) ≡ root
