-- The tree hash over hashes of leaves, and the levels of its inner nodes.
use Rattle.std.specs.Prelude.{◌≡◌, ℕ, zero, suc, ◌+◌, ◌*◌, ◌/◌, ◌<◌, ◌≤◌, nat_lt, if◌then◌else◌, List, [], ◌∷◌, length, take, drop, map, slice_index_or, Vec}
use Rattle.sha2.specs.Sha256.{sha256}
use Rattle.cs_merkle.specs.Tree.{split, node_hash}

-- ---- the tree hash

-- The first argument is no less than the number of hashes.
abbrev pub hash_in : ℕ → List (List ℕ) → List ℕ
hash_in height [] = sha256 []
hash_in height (hash ∷ []) = hash
hash_in zero (hash ∷ next ∷ more) = []
hash_in (suc height) (hash ∷ next ∷ more) =
    let hashes = hash ∷ next ∷ more in
    let k = split (length hashes) in
    node_hash (hash_in height (take k hashes)) (hash_in height (drop k hashes))

-- the Merkle tree hash of leaves that have these hashes
unfoldable pub hash_over : List (List ℕ) → List ℕ
hash_over hashes = hash_in (length hashes) hashes

-- ---- its levels

-- the hashes one level up: that of each two beside one another, and the last one where it is alone
abbrev pub parents : List (List ℕ) → List (List ℕ)
parents [] = []
parents (hash ∷ []) = hash ∷ []
parents (left ∷ right ∷ more) = node_hash left right ∷ parents more

-- the one at a place
abbrev pub parent_at : List (List ℕ) → ℕ → List ℕ
parent_at below place =
    if nat_lt (2 * place + 1) (length below)
    then node_hash (slice_index_or below (2 * place) []) (slice_index_or below (2 * place + 1) [])
    else slice_index_or below (2 * place) []

-- each level is that of the parents of the one below
abbrev pub AreLevels : List (List ℕ) → List (List (List ℕ)) → Type 0
AreLevels below [] = Unit {0}
AreLevels below (level ∷ levels) = (level ≡ parents below) × AreLevels level levels

-- so many levels lead from so many leaves to one node, and no fewer
abbrev pub IsHeight : ℕ → ℕ → Type 0
IsHeight count zero = count ≤ 1
IsHeight count (suc height) = (1 < count) × IsHeight ((count + 1) / 2) height

-- the hashes that vectors hold
abbrev pub levels_of : {Z : Type 0} → List (Vec (List ℕ) Z) → List (List (List ℕ))
levels_of vectors = map (λ vector. vector.items) vectors
