-- Merkle trees and their hashes (RFC 6962, section 2.1).
use Rattle.std.specs.Prelude.{ℕ, zero, suc, ◌^◌, nat_lt, if◌then◌else◌, List, [], ◌∷◌, ◌++◌, length, take, drop, map, Vec}
use Rattle.sha2.specs.Sha256.{sha256}

-- a tree over leaves
pub data Tree : Type 0 where
  Empty : Tree
  Leaf : List ℕ → Tree
  Node : Tree → Tree → Tree

-- the largest power of two smaller than n, of 2 ^ e and the powers below it
abbrev pub power_below : ℕ → ℕ → ℕ
power_below zero n = 1
power_below (suc e) n = if nat_lt (2 ^ suc e) n then 2 ^ suc e else power_below e n

-- how many of n leaves, two or more, lie in the left half: the largest power of two smaller than n
unfoldable pub split : ℕ → ℕ
split n = power_below n n

-- The tree over leaves: none, one, or two halves. The first argument is no less than their number.
abbrev pub grown : ℕ → List (List ℕ) → Tree
grown height [] = Empty
grown height (leaf ∷ []) = Leaf leaf
grown zero (leaf ∷ next ∷ more) = Empty
grown (suc height) (leaf ∷ next ∷ more) =
    let leaves = leaf ∷ next ∷ more in
    let k = split (length leaves) in
    Node (grown height (take k leaves)) (grown height (drop k leaves))

unfoldable pub tree_of : List (List ℕ) → Tree
tree_of leaves = grown (length leaves) leaves

-- the strings that are hashed for a leaf and for an inner node
abbrev pub leaf_string : List ℕ → List ℕ
leaf_string leaf = 0 ∷ leaf

abbrev pub node_string : List ℕ → List ℕ → List ℕ
node_string left right = 1 ∷ (left ++ right)

abbrev pub leaf_hash : List ℕ → List ℕ
leaf_hash leaf = sha256 (leaf_string leaf)

abbrev pub node_hash : List ℕ → List ℕ → List ℕ
node_hash left right = sha256 (node_string left right)

-- the hash of a tree
abbrev pub hash : Tree → List ℕ
hash Empty = sha256 []
hash (Leaf leaf) = leaf_hash leaf
hash (Node left right) = node_hash (hash left) (hash right)

-- the Merkle tree hash of leaves
unfoldable pub merkle_tree_hash : List (List ℕ) → List ℕ
merkle_tree_hash leaves = hash (tree_of leaves)

-- the leaves that vectors hold
abbrev pub leaves_of_vectors : {Z : Type 0} → List (Vec ℕ Z) → List (List ℕ)
leaves_of_vectors vectors = map (λ vector. vector.items) vectors
