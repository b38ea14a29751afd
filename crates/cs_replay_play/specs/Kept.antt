-- What a replay keeps of the executions so far, and what it stands for.
use Rattle.std.specs.Prelude.{◌≡◌, ℕ, suc, ◌+◌, ◌<◌, nat_lt, ◌==◌, ◌&&◌, ◌||◌, Bool, List, [], ◌∷◌, ◌++◌, length, slice_index, slice_set, Option, Some, None, bytes_eq, if◌then◌else◌}
use Rattle.std.specs.List.{list_all, list_any}
use Rattle.cs_base.specs.declared.config.Config.{Config}
use Rattle.cs_tx_types.specs.declared.session.Session.{Session}
use Rattle.cs_tx_types.specs.declared.action.Action.{Action}
use Rattle.cs_tx_types.specs.declared.action.Action.TheVariants.{Prepare, Decide}
use Rattle.cs_tx.specs.Digest.{digest_of_tx, digest_of_session}
use Rattle.cs_ledger.specs.Ledger.{Bytes}
use Rattle.cs_ledger.specs.Table as Shard
use Rattle.cs_node_state.specs.Setup.{Setup, digest_of, concerned}
use Rattle.cs_replay_rules.specs.Aborts.{with_aborted_digest}
use Rattle.cs_node_rules.specs.World.{Execution, newest_of, is_recorded, told_transactions}
use Rattle.cs_replay_play.specs.Digests.{digests_of}
use Rattle.cs_tx.specs.Uses.{concerned_shards}

-- of each shard the slot after the newest execution and its place, the commit votes by shard and session, the
-- transactions told, and the sessions on which an abort was decided
pub record KeptHistory : Type 0 where
  pub config : Config
  pub slots : List ℕ
  pub places : List ℕ
  pub commits : List (ℕ × Bytes)
  pub told : List Bytes
  pub aborted : List Bytes

-- a setup that names sessions and transactions by their digests, and concerns the shards of a configuration
pub record Deploys (config : Config) (setup : Setup) : Type 0 where
  pub shards : setup.shards ≡ config.shards
  pub session : (x : Session) → digest_of setup x ≡ digest_of_session x
  pub transaction : (x : Session) → (setup.session_of x).transaction.digest ≡ digest_of_tx x.tx
  pub concerns : (x : Session) → concerned setup x ≡ concerned_shards config x

abbrev pub is_commit : List (ℕ × Bytes) → Bytes → ℕ → Bool
is_commit commits d shard = list_any (λ commit. (shard == commit.0) && bytes_eq d commit.1) commits

-- the slot after that of an execution, and its place
abbrev pub slot_after : Option Execution → ℕ
slot_after None = 0
slot_after (Some e) = suc e.slot

abbrev pub place_in : Option Execution → ℕ
place_in None = 0
place_in (Some e) = e.place

-- these first executions are those that were kept
pub record KeepsHistory (setup : Setup) (firsts : List Execution) (kept : KeptHistory) : Type 0 where
  pub deploys : Deploys kept.config setup
  pub each : length kept.slots ≡ kept.config.shards
  pub each_place : length kept.places ≡ kept.config.shards
  pub slots : (shard : ℕ) → shard < kept.config.shards →
      slice_index kept.slots shard ≡ slot_after (newest_of shard firsts)
  pub places : (shard : ℕ) → shard < kept.config.shards →
      slice_index kept.places shard ≡ place_in (newest_of shard firsts)
  pub commits : (d : Bytes) (shard : ℕ) → is_commit kept.commits d shard ≡ is_recorded setup firsts d Shard.Commit shard
  pub told : kept.told ≡ digests_of (told_transactions setup firsts)

-- nothing was executed yet
abbrev pub IsBeforeFirst : KeptHistory → Type 0
IsBeforeFirst kept = (setup : Setup) → Deploys kept.config setup → KeepsHistory setup [] kept

-- ---- one more execution

abbrev pub with_commit : ℕ → Bytes → List (ℕ × Bytes) → List (ℕ × Bytes)
with_commit shard d commits = if is_commit commits d shard then commits else commits ++ (shard, d) ∷ []

-- every concerned shard has voted commit
abbrev pub all_voted_commit : Config → List (ℕ × Bytes) → Session → Bool
all_voted_commit config commits x = list_all (is_commit commits (digest_of_session x)) (concerned_shards config x)

-- the vote on a session of this digest
abbrev pub after_vote : KeptHistory → ℕ → Bytes → Shard.Vote → KeptHistory
after_vote kept shard d Shard.Commit = record kept { commits = with_commit shard d kept.commits }
after_vote kept shard d Shard.Abort = kept

-- the transaction of a session, where every concerned shard has voted commit
abbrev pub told_next : KeptHistory → Session → KeptHistory
told_next kept x =
    record kept {
      told = if all_voted_commit kept.config kept.commits x then with_aborted_digest (digest_of_tx x.tx) kept.told else kept.told;
    }

-- the place of a slot comes after that of the newest execution
abbrev pub is_new : KeptHistory → ℕ → ℕ → ℕ → Bool
is_new kept shard slot place =
    nat_lt (slice_index kept.slots shard) (slot + 1)
    || ((slice_index kept.slots shard == slot + 1) && nat_lt (slice_index kept.places shard) place)

-- one more execution of the shard
abbrev pub entered_place : KeptHistory → ℕ → ℕ → ℕ → KeptHistory
entered_place kept shard slot place =
    record kept { slots = slice_set kept.slots shard (slot + 1); places = slice_set kept.places shard place }

-- a Prepare that was answered by a vote; what is void gives nothing
abbrev pub after_prepare : KeptHistory → ℕ → Session → Shard.Effect → KeptHistory
after_prepare kept shard x (Shard.Voted vote) = told_next (after_vote kept shard (digest_of_session x) vote) x
after_prepare kept shard x Shard.Accepted = kept
after_prepare kept shard x Shard.Aborted = kept
after_prepare kept shard x Shard.Skipped = kept
after_prepare kept shard x Shard.Void = kept

abbrev pub after_execution : KeptHistory → ℕ → Action → Shard.Effect → KeptHistory
after_execution kept shard (Prepare x) effect = after_prepare kept shard x effect
after_execution kept shard (Decide vote x) effect = kept

-- what is kept after an execution, where its place is new
abbrev pub kept_after : KeptHistory → ℕ → ℕ → ℕ → Action → Shard.Effect → KeptHistory
kept_after kept shard slot place entry effect =
    if is_new kept shard slot place
    then after_execution (entered_place kept shard slot place) shard entry effect
    else kept

-- with the session of an execution that decides abort on it
abbrev pub with_abort : Action → Shard.Effect → List Bytes → List Bytes
with_abort (Prepare x) (Shard.Voted Shard.Abort) aborted = with_aborted_digest (digest_of_session x) aborted
with_abort (Decide vote x) Shard.Aborted aborted = with_aborted_digest (digest_of_session x) aborted
with_abort entry effect aborted = aborted
