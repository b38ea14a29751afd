-- What is kept of the logs that were executed: votes, and the digests of sessions.
use Rattle.std.specs.Prelude.{◌≡◌, ℕ, ◌+◌, ◌==◌, ◌&&◌, Bool, bytes_eq, if◌then◌else◌, List, [], ◌∷◌, ◌++◌, map, Some, None, Result, Ok, Err}
use Rattle.std.specs.List.{list_any}
use Rattle.cs_tx_types.specs.declared.effect.Effect.{Effect}
use Rattle.cs_tx_types.specs.declared.effect.Effect.TheVariants as effect
use Rattle.cs_tx_types.specs.declared.vote.Vote.TheVariants as vote
use Rattle.cs_tx_types.specs.declared.action.Action.{Action}
use Rattle.cs_tx_types.specs.declared.leaf.Leaf.{Leaf}
use Rattle.cs_tx_types.specs.declared.action.Action.TheVariants.{Prepare, Decide}
use Rattle.cs_tx.specs.Digest.{digest_of_session}
use Rattle.cs_ledger.specs.Ledger.{Bytes}
use Rattle.cs_ledger.specs.Table.{Commit, Abort}
use Rattle.cs_node_state.specs.Setup.{Setup}
use Rattle.cs_tx_types.specs.Session.{session_in}
use Rattle.cs_audit_dump.specs.declared.dump.Log.{Log}
use Rattle.cs_audit_rules.specs.declared.verdict.Fault.{Fault}
use Rattle.cs_audit_rules.specs.Slots.{leaves_fault, logs_fault}
use Rattle.cs_audit_rules.specs.Stands.{Stand}
use Rattle.cs_audit_rules.specs.Support.{has_vote, log_at}
use Rattle.cs_audit.specs.Votes.{KeptVotes}
use Rattle.cs_audit.specs.declared.logs.Executed.{Executed}

-- ---- votes

abbrev pub no_votes : KeptVotes
no_votes = record { commits = []; aborts = [] }

abbrev pub is_kept : List (ℕ × Bytes) → Bytes → ℕ → Bool
is_kept pairs d shard = list_any (λ pair. (shard == pair.0) && bytes_eq d pair.1) pairs

abbrev pub with_shard_digest : ℕ → Bytes → List (ℕ × Bytes) → List (ℕ × Bytes)
with_shard_digest shard d pairs = if is_kept pairs d shard then pairs else pairs ++ (shard, d) ∷ []

-- a Prepare that came to a vote
abbrev pub votes_with : ℕ → Bytes → Effect → KeptVotes → KeptVotes
votes_with shard d (effect.Voted vote.Commit) votes = record votes { commits = with_shard_digest shard d votes.commits }
votes_with shard d (effect.Voted vote.Abort) votes = record votes { aborts = with_shard_digest shard d votes.aborts }
votes_with shard d effect.Accepted votes = votes
votes_with shard d effect.Aborted votes = votes
votes_with shard d effect.Skipped votes = votes
votes_with shard d effect.Void votes = votes

abbrev pub votes_noted : ℕ → Action → Effect → Bytes → KeptVotes → KeptVotes
votes_noted shard (Prepare x) result d votes = votes_with shard d result votes
votes_noted shard (Decide vote x) result d votes = votes

abbrev pub digest_of_leaf : Leaf → Bytes
digest_of_leaf leaf = digest_of_session (session_in leaf.action)

-- with those of one log
abbrev pub log_votes : ℕ → List Leaf → KeptVotes → KeptVotes
log_votes shard [] votes = votes
log_votes shard (leaf ∷ leaves) votes =
    log_votes shard leaves (votes_noted shard leaf.action leaf.result (digest_of_leaf leaf) votes)

-- with those of the logs of shards, the first of which has this number
abbrev pub logs_votes : ℕ → List Log → KeptVotes → KeptVotes
logs_votes shard [] votes = votes
logs_votes shard (log ∷ logs) votes = logs_votes (shard + 1) logs (log_votes shard log.leaves votes)

-- ---- what is told

-- the digests of the sessions of a log
abbrev pub digests_in_log : Log → List Bytes
digests_in_log log = map digest_of_leaf log.leaves

-- the votes that are kept are those in these logs
pub record KeepsVotes (setup : Setup) (logs : List Log) (votes : KeptVotes) : Type 0 where
  pub commits : (d : Bytes) (shard : ℕ) → is_kept votes.commits d shard ≡ has_vote setup Commit d (log_at logs shard)
  pub aborts : (d : Bytes) (shard : ℕ) → is_kept votes.aborts d shard ≡ has_vote setup Abort d (log_at logs shard)

-- A log broke no rule behind this stand of its shard, and its digests and votes were kept; or this is its first fault.
abbrev pub TellsLog : Setup → ℕ → Log → Stand → KeptVotes → KeptVotes → Result (List Bytes) Fault → Type 0
TellsLog setup shard log stand old new (Ok digests) =
    (leaves_fault setup shard log.heads stand log.leaves ≡ None)
    × (digests ≡ digests_in_log log) × (new ≡ log_votes shard log.leaves old)
TellsLog setup shard log stand old new (Err fault) = leaves_fault setup shard log.heads stand log.leaves ≡ Some fault

-- the logs broke no rule, and were kept; or this is their first fault
abbrev pub TellsFirstFault : Setup → List Log → Result Executed Fault → Type 0
TellsFirstFault setup logs (Ok executed) =
    (logs_fault setup 0 logs ≡ None) × (executed.digests ≡ map digests_in_log logs) × KeepsVotes setup logs executed.votes
TellsFirstFault setup logs (Err fault) = logs_fault setup 0 logs ≡ Some fault
