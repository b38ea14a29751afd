-- The encodings and limits of what is kept and proved of a shard's log.
use Rattle.std.specs.Prelude.{ℕ, zero, suc, ◌≡◌, ◌<◌, ◌≤◌, ◌^◌, nat_le, List, [], ◌∷◌, ◌++◌, Some, None}
use Rattle.std.specs.Int.{w8, w16, w64, to_be_bytes}
use Rattle.cs_base.specs.declared.limits.TheConstants.{LAST_SLOT}
use Rattle.cs_base.specs.declared.version.Version.{Version}
use Rattle.cs_base.specs.declared.version.Version.TheVariants.{One, Two}
use Rattle.cs_base.specs.Fields.{counted, Found, ◌<$>◌, number_at, bytes_at, counted_at, pair_at, tested_at}
use Rattle.cs_tx_value.specs.Encoding.{AtMost}
use Rattle.cs_tx_value.specs.Kinds.{kinds_at}
use Rattle.cs_tx_value.specs.Object.{DigestFits}
use Rattle.cs_tx_types.specs.declared.limits.TheConstants.{COVERED, LAST_PLACE, LAST_BATCH_PLACE, MOST_PATH, MOST_BATCH_PATH}
use Rattle.cs_tx_types.specs.declared.vote.Vote.TheVariants as vote
use Rattle.cs_tx_types.specs.declared.action.Action.{Action}
use Rattle.cs_tx_types.specs.declared.effect.Effect.{Effect}
use Rattle.cs_tx_types.specs.declared.effect.Effect.TheVariants.{Voted, Accepted, Aborted, Skipped, Void}
use Rattle.cs_tx_types.specs.declared.leaf.Leaf.{Leaf}
use Rattle.cs_tx_types.specs.declared.checkpoint.Checkpoint.{Checkpoint}
use Rattle.cs_tx_types.specs.declared.proof.Proof.{Proof}
use Rattle.cs_tx_types.specs.Session.{action_encoding, ActionFits}
use Rattle.cs_tx_types.specs.Reading.{action_at}
use Rattle.cs_tx_types.specs.Sized.{sized, sized_at}

-- ---- what an execution came to

abbrev pub effect_encoding : Effect → List ℕ
effect_encoding (Voted vote.Abort) = 0 ∷ []
effect_encoding (Voted vote.Commit) = 1 ∷ []
effect_encoding Accepted = 2 ∷ []
effect_encoding Aborted = 3 ∷ []
effect_encoding Skipped = 4 ∷ []
effect_encoding Void = 5 ∷ []

-- ---- what version 1 leaves out

-- in version 1 the place of an action in its slot, which is 0
abbrev pub place_encoding : Version → ℕ → List ℕ
place_encoding One place = []
place_encoding Two place = place ∷ []

abbrev pub PlaceFits : Version → ℕ → Type 0
PlaceFits One place = place ≡ 0
PlaceFits Two place = place < 256

-- and the number of leaves that a checkpoint covers, one of each slot
abbrev pub leaves_encoding : Version → ℕ → List ℕ
leaves_encoding One leaves = []
leaves_encoding Two leaves = to_be_bytes w16 leaves

abbrev pub LeavesFit : Version → ℕ → Type 0
LeavesFit One leaves = leaves ≡ COVERED
LeavesFit Two leaves = leaves < 2 ^ 16

-- ---- leaves: slot, place, action behind its length, result

abbrev pub leaf_encoding : Version → Leaf → List ℕ
leaf_encoding version l =
    to_be_bytes w64 l.slot ++ (place_encoding version l.place
    ++ (sized action_encoding l.action ++ effect_encoding l.result))

pub record LeafFits (version : Version) (l : Leaf) : Type 0 where
  pub slot : l.slot < 2 ^ 64
  pub place : PlaceFits version l.place
  pub action : ActionFits l.action

-- ---- checkpoints

abbrev pub checkpoint_encoding : Version → Checkpoint → List ℕ
checkpoint_encoding version c =
    to_be_bytes w16 c.shard ++ (to_be_bytes w64 c.number
    ++ (c.previous ++ (c.leaf_root ++ (c.table_root ++ leaves_encoding version c.leaves))))

pub record CheckpointFits (version : Version) (c : Checkpoint) : Type 0 where
  pub shard : c.shard < 2 ^ 16
  pub number : c.number < 2 ^ 64
  pub previous : DigestFits c.previous
  pub leaf_root : DigestFits c.leaf_root
  pub table_root : DigestFits c.table_root
  pub leaves : LeavesFit version c.leaves

-- ---- proofs: checkpoint, place, leaf behind its length, path

-- the last place among the leaves that a checkpoint covers
abbrev pub last_place : Version → ℕ
last_place One = LAST_PLACE
last_place Two = LAST_BATCH_PLACE

-- the most hashes of a path over these leaves
abbrev pub most_path : Version → ℕ
most_path One = MOST_PATH
most_path Two = MOST_BATCH_PATH

abbrev pub index_encoding : Version → ℕ → List ℕ
index_encoding One place = place ∷ []
index_encoding Two place = to_be_bytes w16 place

abbrev pub proof_encoding : Version → Proof → List ℕ
proof_encoding version p =
    checkpoint_encoding version p.checkpoint ++ (index_encoding version p.place
    ++ (sized (leaf_encoding version) p.leaf ++ counted (λ digest. digest) p.path))

pub record ProofFits (version : Version) (p : Proof) : Type 0 where
  pub checkpoint : CheckpointFits version p.checkpoint
  pub place : p.place ≤ last_place version
  pub leaf : LeafFits version p.leaf
  pub slot : p.leaf.slot < 2 ^ 62
  pub path : AtMost (most_path version) DigestFits p.path

-- ---- what stands at the front of a list of bytes

abbrev pub effect_kind_at : ℕ → List ℕ → Found Effect
effect_kind_at zero bytes = Some (Voted vote.Abort, bytes)
effect_kind_at (suc zero) bytes = Some (Voted vote.Commit, bytes)
effect_kind_at (suc (suc zero)) bytes = Some (Accepted, bytes)
effect_kind_at (suc (suc (suc zero))) bytes = Some (Aborted, bytes)
effect_kind_at (suc (suc (suc (suc zero)))) bytes = Some (Skipped, bytes)
effect_kind_at (suc (suc (suc (suc (suc zero))))) bytes = Some (Void, bytes)
effect_kind_at (suc (suc (suc (suc (suc (suc kind)))))) bytes = None

abbrev pub effect_at : List ℕ → Found Effect
effect_at = kinds_at effect_kind_at

abbrev pub place_at : Version → List ℕ → Found ℕ
place_at One bytes = Some (0, bytes)
place_at Two bytes = number_at w8 bytes

abbrev pub leaves_at : Version → List ℕ → Found ℕ
leaves_at One bytes = Some (COVERED, bytes)
leaves_at Two bytes = number_at w16 bytes

abbrev pub leaf_of : ℕ × (ℕ × (Action × Effect)) → Leaf
leaf_of p = record { slot = p.0; place = p.1.0; action = p.1.1.0; result = p.1.1.1 }

unfoldable pub leaf_at : Version → List ℕ → Found Leaf
leaf_at version bytes =
    leaf_of <$> pair_at (number_at w64) (pair_at (place_at version) (pair_at (sized_at action_at) effect_at)) bytes

abbrev pub checkpoint_of_parts : ℕ × (ℕ × (List ℕ × (List ℕ × (List ℕ × ℕ)))) → Checkpoint
checkpoint_of_parts p = record {
  shard = p.0;
  number = p.1.0;
  previous = p.1.1.0;
  leaf_root = p.1.1.1.0;
  table_root = p.1.1.1.1.0;
  leaves = p.1.1.1.1.1;
}

unfoldable pub checkpoint_at : Version → List ℕ → Found Checkpoint
checkpoint_at version bytes =
    checkpoint_of_parts <$> pair_at (number_at w16) (pair_at (number_at w64)
    (pair_at (bytes_at 32) (pair_at (bytes_at 32) (pair_at (bytes_at 32) (leaves_at version))))) bytes

-- a slot of a shard's order
abbrev pub slot_at : List ℕ → Found ℕ
slot_at = tested_at (λ n. nat_le n LAST_SLOT) (number_at w64)

-- a place among the leaves of a checkpoint
abbrev pub index_number_at : Version → List ℕ → Found ℕ
index_number_at One = number_at w8
index_number_at Two = number_at w16

abbrev pub index_at : Version → List ℕ → Found ℕ
index_at version = tested_at (λ n. nat_le n (last_place version)) (index_number_at version)

unfoldable pub low_leaf_at : Version → List ℕ → Found Leaf
low_leaf_at version bytes =
    leaf_of <$> pair_at slot_at (pair_at (place_at version) (pair_at (sized_at action_at) effect_at)) bytes

-- a leaf of such a slot, behind its length
abbrev pub covered_at : Version → List ℕ → Found Leaf
covered_at version = sized_at (low_leaf_at version)

abbrev pub proof_of_parts : Checkpoint × (ℕ × (Leaf × List (List ℕ))) → Proof
proof_of_parts p = record { checkpoint = p.0; place = p.1.0; leaf = p.1.1.0; path = p.1.1.1 }

unfoldable pub proof_at : Version → List ℕ → Found Proof
proof_at version bytes =
    proof_of_parts <$> pair_at (checkpoint_at version) (pair_at (index_at version)
    (pair_at (covered_at version) (counted_at (most_path version) (bytes_at 32)))) bytes
