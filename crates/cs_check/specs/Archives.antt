-- What a node has at hand for checkpoints.
use Rattle.std.specs.Prelude.{◌≡◌, ℕ, Bool, true, false, List, slice_get, Some}
use Rattle.cs_base.specs.declared.version.Version.TheVariants.{One}
use Rattle.cs_tx_types.specs.declared.leaf.Leaf.{Leaf}
use Rattle.cs_tx_types.specs.declared.checkpoint.Checkpoint.{Checkpoint}
use Rattle.cs_tx_types.specs.Log.{leaf_encoding, LeafFits}
use Rattle.cs_check_rules.specs.Chain.{Log, KeptLog, kept_of}
use Rattle.cs_check_rules.specs.Heads.{Heads, with_head}
use Rattle.cs_check.specs.Leaves.{Hashed}

-- what is kept of the log of its checkpoints, the leaves of its records, and the last checkpoint that each other member
-- told
pub record Archived : Type 0 where
  pub kept : KeptLog
  pub hashed : Hashed
  pub heads : Heads

-- the leaf of each slot is one of that slot
abbrev pub AreInPlace : List (List ℕ) → Type 0
AreInPlace leaves =
    (slot : ℕ) (leaf : Leaf) → LeafFits One leaf → slice_get leaves slot ≡ Some (leaf_encoding One leaf) → leaf.slot ≡ slot

-- what is kept of such a log
pub record IsOfLog (kept : KeptLog) : Type 0 where
  pub log : Log
  pub kept_is : kept ≡ kept_of log
  pub in_place : AreInPlace log.leaves

-- a checkpoint that is news is kept
abbrev pub with_news : Bool → ℕ → Checkpoint → Archived → Archived
with_news false index c a = a
with_news true index c a = record { kept = a.kept; hashed = a.hashed; heads = with_head index c a.heads }
