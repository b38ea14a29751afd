-- What holds of what a chain keeps, and what the next checkpoint makes of it.
use Rattle.std.specs.Prelude.{◌≡◌, ℕ, ◌+◌, ◌-◌, ◌*◌, ◌<◌, ◌≤◌, nat_lt, if◌then◌else◌, List, [], ◌∷◌, ◌++◌, length, drop, slice_get, slice_index_or, All, Some}
use Rattle.cs_base.specs.declared.version.Version.TheVariants.{One}
use Rattle.cs_tx_types.specs.declared.limits.TheConstants.{COVERED}
use Rattle.cs_tx_types.specs.declared.checkpoint.Checkpoint.{Checkpoint}
use Rattle.cs_tx_types.specs.declared.proof.Proof.{Proof}
use Rattle.cs_tx_types.specs.Log.{leaf_encoding, LeafFits}
use Rattle.cs_merkle.specs.Tree.{merkle_tree_hash}
use Rattle.cs_merkle.specs.Path.{audit_path}
use Rattle.cs_check_rules.specs.Chain.{head_of, no_head, IsLeaf, Covered, KeptLog}

-- ---- a checkpoint and its leaves

pub record AreAll (part : List (List ℕ)) : Type 0 where
  pub all : length part ≡ COVERED
  pub leaves : All IsLeaf part

-- the proof of the leaf at a place
pub record IsProofAt (c : Covered) (at : ℕ) (proof : Proof) : Type 0 where
  pub checkpoint : proof.checkpoint ≡ c.checkpoint
  pub place : proof.place ≡ at
  pub leaf : slice_get c.leaves at ≡ Some (leaf_encoding One proof.leaf)
  pub leaf_fits : LeafFits One proof.leaf
  pub path : proof.path ≡ audit_path c.leaves at

-- ---- all that is kept

-- so it is also where memory ran out
pub record IsKeptChain (kept : KeptLog) : Type 0 where
  pub enough : COVERED * length kept.heads + length kept.uncovered ≤ kept.slots
  pub few : length kept.uncovered < COVERED
  pub leaves : All IsLeaf kept.uncovered
  pub cut : length kept.covered ≤ length kept.heads

-- by its parts
abbrev pub kept_by : ℕ → ℕ → List Covered → List (List ℕ) → List (List ℕ) → KeptLog
kept_by shard slots covered uncovered heads = record {
  shard = shard;
  slots = slots;
  covered = covered;
  uncovered = uncovered;
  heads = heads;
}

-- a leaf more that no checkpoint covers yet
abbrev pub chain_with_leaf : List ℕ → KeptLog → KeptLog
chain_with_leaf leaf kept = record kept { uncovered = kept.uncovered ++ leaf ∷ [] }

-- ---- the next checkpoint

abbrev pub last_head : List (List ℕ) → List ℕ
last_head heads = slice_index_or heads (length heads - 1) no_head

-- over these leaves, behind those that have these heads
abbrev pub next_behind : ℕ → List (List ℕ) → List (List ℕ) → List ℕ → Checkpoint
next_behind shard heads leaves table_root = record {
  shard = shard;
  number = length heads;
  previous = last_head heads;
  leaf_root = merkle_tree_hash leaves;
  table_root = table_root;
  leaves = COVERED;
}

-- the first of more than 64 is cut
abbrev pub cut_first : List Covered → List Covered
cut_first covered = if nat_lt 64 (length covered) then drop 1 covered else covered

-- with the checkpoint over all leaves that none covers yet
abbrev pub with_checkpoint : Checkpoint → KeptLog → KeptLog
with_checkpoint c kept = record kept {
  covered = cut_first (kept.covered ++ record { checkpoint = c; leaves = kept.uncovered } ∷ []);
  uncovered = [];
  heads = kept.heads ++ head_of c ∷ [];
}
