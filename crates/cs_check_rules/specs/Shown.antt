-- What a proof shows to who knows the head of a checkpoint.
use Rattle.std.specs.Prelude.{◌≡◌, ℕ, ◌+◌, ◌*◌, List, ◌∷◌, length, reverse, slice_get, Contains, Some}
use Rattle.sha2.specs.Sha256.{sha256}
use Rattle.cs_base.specs.declared.version.Version.TheVariants.{One}
use Rattle.cs_tx_types.specs.declared.limits.TheConstants.{COVERED}
use Rattle.cs_tx_types.specs.declared.checkpoint.Checkpoint.{Checkpoint}
use Rattle.cs_tx_types.specs.declared.proof.Proof.{Proof}
use Rattle.cs_tx_types.specs.Log.{leaf_encoding, checkpoint_encoding, CheckpointFits}
use Rattle.cs_merkle.specs.Tree.{tree_of, merkle_tree_hash}
use Rattle.cs_merkle.specs.Path.{ShowsLeaf, audit_path}
use Rattle.cs_merkle.specs.Collisions.{strings_in, strings_by}
use Rattle.cs_check_rules.specs.Chain.{head_of}

-- The checkpoint has this head, the path leads from the leaf to the root over its 16, and the leaf is of the slot at
-- that place.
pub record Shows (head : List ℕ) (proof : Proof) : Type 0 where
  pub checkpoint : head_of proof.checkpoint ≡ head
  pub leads : ShowsLeaf proof.checkpoint.leaf_root COVERED proof.place (leaf_encoding One proof.leaf) proof.path
  pub slot : proof.leaf.slot ≡ COVERED * proof.checkpoint.number + proof.place

-- a checkpoint that fits, over these leaves
pub record CoversLeaves (c : Checkpoint) (leaves : List (List ℕ)) : Type 0 where
  pub fits : CheckpointFits One c
  pub all : length leaves ≡ COVERED
  pub root : c.leaf_root ≡ merkle_tree_hash leaves

-- the strings that are hashed for a checkpoint over leaves, and for a proof
abbrev pub head_string : Checkpoint → List ℕ
head_string c = 67 ∷ checkpoint_encoding One c

abbrev pub checkpoint_strings : Checkpoint → List (List ℕ) → List (List ℕ)
checkpoint_strings c leaves = head_string c ∷ strings_in (tree_of leaves)

abbrev pub proof_strings : Proof → List (List ℕ)
proof_strings p =
    head_string p.checkpoint ∷ strings_by COVERED p.place (leaf_encoding One p.leaf) (reverse p.path)

-- one of the first and one of the second with one hash are one string
abbrev pub NoProofCollision : Checkpoint → List (List ℕ) → Proof → Type 0
NoProofCollision c leaves p = (a b : List ℕ) → Contains (checkpoint_strings c leaves) a →
    Contains (proof_strings p) b → sha256 a ≡ sha256 b → a ≡ b

-- the proof is of this checkpoint, and its leaf is the one at its place
pub record IsOf (c : Checkpoint) (leaves : List (List ℕ)) (p : Proof) : Type 0 where
  pub checkpoint : p.checkpoint ≡ c
  pub leaf : slice_get leaves p.place ≡ Some (leaf_encoding One p.leaf)
  pub path : p.path ≡ audit_path leaves p.place
