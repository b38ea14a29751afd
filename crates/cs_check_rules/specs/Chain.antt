-- The checkpoints of a shard's log, one after every 16 slots, and their heads.
use Rattle.std.specs.Prelude.{◌≡◌, ℕ, zero, suc, ◌+◌, ◌-◌, ◌*◌, ◌/◌, ◌%◌, ◌==◌, nat_lt, if◌then◌else◌, List, [], ◌∷◌, ◌++◌, length, map, take, drop, replicate, slice_get, slice_index_or, Option, Some, None}
use Rattle.cs_hash.specs.Hash.{tagged_digest}
use Rattle.cs_base.specs.declared.version.Version.TheVariants.{One}
use Rattle.cs_tx_types.specs.declared.limits.TheConstants.{COVERED}
use Rattle.cs_tx_types.specs.declared.leaf.Leaf.{Leaf}
use Rattle.cs_tx_types.specs.declared.checkpoint.Checkpoint.{Checkpoint}
use Rattle.cs_tx_types.specs.declared.proof.Proof.{Proof}
use Rattle.cs_tx_types.specs.Log.{leaf_encoding, LeafFits, checkpoint_encoding}
use Rattle.cs_merkle.specs.Tree.{merkle_tree_hash}
use Rattle.cs_merkle.specs.Path.{audit_path}
use Rattle.cs_check_rules.specs.declared.kept.TheConstants.{KEPT_SLOTS}

-- ---- what checkpoints are made of

-- What was told of a shard's slots: the leaf of each, as encoded, and the root over the shard's records after every
-- 16th.
pub record Log : Type 0 where
  pub shard : ℕ
  pub leaves : List (List ℕ)
  pub table_roots : List (List ℕ)

abbrev pub empty_log : ℕ → Log
empty_log shard = record { shard = shard; leaves = []; table_roots = [] }

-- one slot more, after which the records have this root
abbrev pub with_slot : List ℕ → List ℕ → Log → Log
with_slot leaf table_root log = record {
  shard = log.shard;
  leaves = log.leaves ++ leaf ∷ [];
  table_roots =
      if (length log.leaves + 1) % COVERED == 0 then log.table_roots ++ table_root ∷ [] else log.table_roots;
}

-- the encoding of a leaf
pub record IsLeaf (bytes : List ℕ) : Type 0 where
  pub leaf : Leaf
  pub fits : LeafFits One leaf
  pub encoded : bytes ≡ leaf_encoding One leaf

-- ---- checkpoints

-- the leaves of the 16 slots that the checkpoint of a number covers
abbrev pub covered_leaves : Log → ℕ → List (List ℕ)
covered_leaves log number = take COVERED (drop (COVERED * number) log.leaves)

-- SHA-256 of the letter C and the encoding
abbrev pub head_of : Checkpoint → List ℕ
head_of c = tagged_digest 67 (checkpoint_encoding One c)

-- before the first checkpoint there are 32 zero bytes
abbrev pub no_head : List ℕ
no_head = replicate 32 0

-- the checkpoint of a number, behind one with this head
abbrev pub checkpoint_behind : List ℕ → Log → ℕ → Checkpoint
checkpoint_behind previous log number = record {
  shard = log.shard;
  number = number;
  previous = previous;
  leaf_root = merkle_tree_hash (covered_leaves log number);
  table_root = slice_index_or log.table_roots number [];
  leaves = COVERED;
}

-- the head of the checkpoint before that of a number
abbrev pub head_before : Log → ℕ → List ℕ
head_before log zero = no_head
head_before log (suc number) = head_of (checkpoint_behind (head_before log number) log number)

abbrev pub checkpoint_of : Log → ℕ → Checkpoint
checkpoint_of log number = checkpoint_behind (head_before log number) log number

-- the head of the checkpoint of a number, where that one is made
abbrev pub chain_head : Log → ℕ → Option (List ℕ)
chain_head log number =
    if nat_lt number (length log.table_roots) then Some (head_of (checkpoint_of log number)) else None

-- the checkpoint that the last slot made: the last one after every 16th slot, else none
abbrev pub made_last : Log → Option Checkpoint
made_last log =
    if length log.leaves % COVERED == 0 then Some (checkpoint_of log (length log.table_roots - 1)) else None

-- ---- proofs

-- the proof of a slot that a checkpoint covers
pub record IsProofOf (log : Log) (slot : ℕ) (proof : Proof) : Type 0 where
  pub checkpoint : proof.checkpoint ≡ checkpoint_of log (slot / COVERED)
  pub place : proof.place ≡ slot % COVERED
  pub leaf : slice_get log.leaves slot ≡ Some (leaf_encoding One proof.leaf)
  pub leaf_fits : LeafFits One proof.leaf
  pub path : proof.path ≡ audit_path (covered_leaves log (slot / COVERED)) (slot % COVERED)

-- ---- what a chain keeps

-- how many slots up to the last checkpoint keep their leaves
abbrev pub kept_slots : ℕ
kept_slots = KEPT_SLOTS

-- The first slot that is kept: 0 up to the 64th checkpoint.
abbrev pub cut_slot : Log → ℕ
cut_slot log = COVERED * length log.table_roots - kept_slots

-- a checkpoint, and the leaves that it covers
pub record Covered : Type 0 where
  pub checkpoint : Checkpoint
  pub leaves : List (List ℕ)

abbrev pub covered_of : Log → ℕ → Covered
covered_of log number = record { checkpoint = checkpoint_of log number; leaves = covered_leaves log number }

-- those of the numbers below this one
abbrev pub covered_below : Log → ℕ → List Covered
covered_below log zero = []
covered_below log (suc number) = covered_below log number ++ covered_of log number ∷ []

abbrev pub all_covered : Log → List Covered
all_covered log = covered_below log (length log.table_roots)

pub record KeptLog : Type 0 where
  pub shard : ℕ
  pub slots : ℕ  -- how many there are in all
  pub covered : List Covered  -- the checkpoints that aren't cut
  pub uncovered : List (List ℕ)  -- the leaves of the slots that no checkpoint covers yet
  pub heads : List (List ℕ)  -- those of all checkpoints

-- What is kept of a log: its checkpoints from the cut slot on, with the leaves that they cover, the leaves behind these,
-- and all heads.
abbrev pub kept_of : Log → KeptLog
kept_of log = record {
  shard = log.shard;
  slots = length log.leaves;
  covered = drop (cut_slot log / COVERED) (all_covered log);
  uncovered = drop (COVERED * length log.table_roots) log.leaves;
  heads = map (λ c. head_of c.checkpoint) (all_covered log);
}

-- it holds of every log of which this is kept
abbrev pub AtItsLog : KeptLog → (Log → Type 0) → Type 0
AtItsLog kept Holds = (log : Log) → kept ≡ kept_of log → Holds log
