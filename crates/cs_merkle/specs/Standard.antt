-- The equations by which RFC 6962, section 2.1, defines the Merkle tree hash and the audit path.
use Rattle.std.specs.Prelude.{◌≡◌, ℕ, ◌-◌, ◌*◌, ◌^◌, ◌<◌, ◌≤◌, List, [], ◌∷◌, ◌++◌, length, take, drop}
use Rattle.sha2.specs.Sha256.{sha256}

-- the largest power of two smaller than n
pub record IsLargestPowerBelow (n k : ℕ) : Type 0 where
  pub power : (e : ℕ) × (k ≡ 2 ^ e)
  pub smaller : k < n
  pub largest : n ≤ 2 * k

-- the Merkle tree hash of a list of leaves
pub record IsTreeHash (mth : List (List ℕ) → List ℕ) : Type 0 where
  pub no_leaf : mth [] ≡ sha256 []
  pub one_leaf : (leaf : List ℕ) → mth (leaf ∷ []) ≡ sha256 (0 ∷ leaf)
  pub more : (leaves : List (List ℕ)) (k : ℕ) → IsLargestPowerBelow (length leaves) k →
      mth leaves ≡ sha256 (1 ∷ (mth (take k leaves) ++ mth (drop k leaves)))

-- the audit path of a place in a list of leaves
pub record IsAuditPath (mth : List (List ℕ) → List ℕ)
    (path : List (List ℕ) → ℕ → List (List ℕ)) : Type 0 where
  pub one_leaf : (leaf : List ℕ) → path (leaf ∷ []) 0 ≡ []
  pub on_the_left : (leaves : List (List ℕ)) (k place : ℕ) →
      IsLargestPowerBelow (length leaves) k → place < k →
      path leaves place ≡ path (take k leaves) place ++ mth (drop k leaves) ∷ []
  pub on_the_right : (leaves : List (List ℕ)) (k place : ℕ) →
      IsLargestPowerBelow (length leaves) k → k ≤ place →
      path leaves place ≡ path (drop k leaves) (place - k) ++ mth (take k leaves) ∷ []
