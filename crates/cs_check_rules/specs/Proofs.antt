-- The proof of a slot, as a function of the log.
use Rattle.std.specs.Prelude.{ℕ, ◌*◌, ◌/◌, ◌%◌, nat_le, nat_lt, Bool, ◌&&◌, if◌then◌else◌, length, slice_get, Option, None, option_and_then, option_map}
use Rattle.cs_base.specs.Fields.{whole_at}
use Rattle.cs_base.specs.declared.version.Version.TheVariants.{One}
use Rattle.cs_tx_types.specs.declared.limits.TheConstants.{COVERED}
use Rattle.cs_tx_types.specs.declared.leaf.Leaf.{Leaf}
use Rattle.cs_tx_types.specs.declared.proof.Proof.{Proof}
use Rattle.cs_tx_types.specs.Log.{leaf_at}
use Rattle.cs_merkle.specs.Path.{audit_path}
use Rattle.cs_check_rules.specs.Chain.{Log, covered_leaves, checkpoint_of, cut_slot}

-- the leaf of a slot, read of its bytes
abbrev pub leaf_in : Log → ℕ → Option Leaf
leaf_in log slot = option_and_then (whole_at (leaf_at One)) (slice_get log.leaves slot)

-- with the checkpoint that covers it
abbrev pub proof_with : Log → ℕ → Leaf → Proof
proof_with log slot leaf = record {
  checkpoint = checkpoint_of log (slot / COVERED);
  place = slot % COVERED;
  leaf = leaf;
  path = audit_path (covered_leaves log (slot / COVERED)) (slot % COVERED);
}

-- a checkpoint covers the slot, and it isn't cut
abbrev pub is_provable : Log → ℕ → Bool
is_provable log slot = nat_le (cut_slot log) slot && nat_lt slot (COVERED * length log.table_roots)

-- none of any other slot
abbrev pub proof_of : Log → ℕ → Option Proof
proof_of log slot = if is_provable log slot then option_map (proof_with log slot) (leaf_in log slot) else None
