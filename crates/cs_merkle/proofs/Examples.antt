-- Worked examples: where trees are split, and how long paths are.
use Rattle.std.proofs.Common.{◌≡◌, ℕ, List, [], ◌∷◌, map, refl}
use Rattle.cs_merkle.specs.Tree.{Leaf, Node, split, tree_of}
use Rattle.cs_merkle.specs.Path.{path_length}

splits : map split (2 ∷ 3 ∷ 4 ∷ 5 ∷ 8 ∷ 9 ∷ 40 ∷ []) ≡ 1 ∷ 2 ∷ 2 ∷ 4 ∷ 4 ∷ 8 ∷ 32 ∷ []
unfolding split
splits = refl

-- of seven leaves the last has a path of two hashes, the others one of three
lengths_of_seven :
    map (path_length 7) (0 ∷ 1 ∷ 2 ∷ 3 ∷ 4 ∷ 5 ∷ 6 ∷ []) ≡ 3 ∷ 3 ∷ 3 ∷ 3 ∷ 3 ∷ 3 ∷ 2 ∷ []
unfolding split path_length
lengths_of_seven = refl

-- five leaves: four on the left, and the last alone
five : (a b c d e : List ℕ) → tree_of (a ∷ b ∷ c ∷ d ∷ e ∷ []) ≡
    Node (Node (Node (Leaf a) (Leaf b)) (Node (Leaf c) (Leaf d))) (Leaf e)
unfolding split tree_of
five a b c d e = refl
