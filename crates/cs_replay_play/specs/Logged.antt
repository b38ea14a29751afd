-- What a replay keeps of a node's log, from what the node's notes tell.
use Rattle.std.specs.Prelude.{◌≡◌, ℕ, zero, suc, List, [], ◌∷◌, ◌++◌, length, slice_get, Some}
use Rattle.cs_base.specs.declared.node_id.NodeId.{NodeId}
use Rattle.cs_base.specs.declared.version.Version.TheVariants.{One}
use Rattle.cs_tx_types.specs.Log.{leaf_encoding}
use Rattle.cs_check_rules.specs.Chain.{Log}
use Rattle.cs_order.specs.Deeds.{chosen_in}
use Rattle.cs_ledger.specs.Ledger.{Bytes}
use Rattle.cs_node_rules.specs.Site.{Site, View}
use Rattle.cs_node_rules.specs.World.{Happening, view_of}
use Rattle.cs_replay_rules.specs.Dumps.{heads_below}
use Rattle.cs_node.specs.declared.draft.Note.{Note}
use Rattle.cs_node.specs.declared.draft.Note.TheVariants as note

-- the leaf of each slot, as encoded, and the head of each checkpoint
pub record Logged : Type 0 where
  pub leaves : List Bytes
  pub heads : List Bytes

-- before the first slot
abbrev pub none_logged : Logged
none_logged = record { leaves = []; heads = [] }

abbrev pub logged_with_leaf : Bytes → Logged → Logged
logged_with_leaf leaf kept = record kept { leaves = kept.leaves ++ leaf ∷ [] }

abbrev pub logged_with_head : Bytes → Logged → Logged
logged_with_head head kept = record kept { heads = kept.heads ++ head ∷ [] }

-- what a note tells of the log: the leaf of a slot that was executed, or the head of a checkpoint
abbrev pub note_logged : Note → Logged → Logged
note_logged (note.Dropped cause) kept = kept
note_logged (note.Viewed slot view) kept = kept
note_logged (note.Headed number head) kept = logged_with_head head kept
note_logged (note.Executed slot place entry effect) kept =
    logged_with_leaf (leaf_encoding One (record { slot = slot; place = 0; action = entry; result = effect })) kept

abbrev pub notes_logged : List Note → Logged → Logged
notes_logged [] kept = kept
notes_logged (told ∷ notes) kept = notes_logged notes (note_logged told kept)

-- the node at this place told these notes
abbrev pub logged_at : ℕ → List Note → List Logged → List Logged
logged_at place notes [] = []
logged_at zero notes (kept ∷ logs) = notes_logged notes kept ∷ logs
logged_at (suc place) notes (kept ∷ logs) = kept ∷ logged_at place notes logs

-- ---- what it stands for

-- of a whole log
abbrev pub logged_of : Log → Logged
logged_of log = record { leaves = log.leaves; heads = heads_below log (length log.table_roots) }

-- it is that of the node's log, in which all slots stand that were chosen
pub record IsLogOf {M : Type 0} (v : View M) (kept : Logged) : Type 0 where
  pub is : kept ≡ logged_of v.bench.log
  pub slots : length (chosen_in v.member.deeds) ≡ length v.bench.log.leaves

-- one for each of so many nodes with these names, after these events
pub record AllLogged {M : Type 0} (site : Site M) (names : ℕ → NodeId) (nodes : ℕ) (logs : List Logged)
    (world : List (Happening M)) : Type 0 where
  pub each : (i : ℕ) (kept : Logged) → slice_get logs i ≡ Some kept → IsLogOf (view_of site world (names i)) kept
  pub count : length logs ≡ nodes
