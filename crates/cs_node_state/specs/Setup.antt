-- What is the same at all nodes of a deployment, and what the ledger sees of a session and of an action.
use Rattle.std.specs.Prelude.{ℕ, zero, suc, Bool, ◌&&◌, if◌then◌else◌, List, [], ◌∷◌, ◌++◌, false, bytes_eq}
use Rattle.cs_base.specs.declared.version.Version.{Version}
use Rattle.cs_tx_types.specs.declared.session.Session.{Session}
use Rattle.cs_tx_types.specs.declared.vote.Vote.{Vote}
use Rattle.cs_tx_types.specs.declared.vote.Vote.TheVariants.{Commit, Abort}
use Rattle.cs_tx_types.specs.declared.action.Action.{Action}
use Rattle.cs_tx_types.specs.declared.action.Action.TheVariants.{Prepare, Decide}
use Rattle.cs_ledger.specs.Ledger.{Bytes}
use Rattle.cs_ledger.specs.Session as Seen
use Rattle.cs_ledger.specs.Table as Shard
use Rattle.cs_tx.specs.Votes.{vote_of}

pub record Setup : Type 0 where
  pub version : Version  -- how entries are made and written
  pub shards : ℕ
  pub f : ℕ  -- a shard has 3f + 1 nodes, of which f may lie
  pub rules : Seen.Rules
  pub session_of : Session → Seen.Session  -- what the shards need of a session

abbrev pub digest_of : Setup → Session → Bytes
digest_of setup x = (setup.session_of x).digest

-- the action is a Prepare of the session of this digest
abbrev pub prepares : Setup → Bytes → Action → Bool
prepares setup d (Prepare x) = bytes_eq d (digest_of setup x)
prepares setup d (Decide vote x) = false

abbrev pub is_concerned_shard : Setup → Session → ℕ → Bool
is_concerned_shard setup x shard = Seen.concerns setup.rules (setup.session_of x) shard

-- the concerned ones of the shards below n, in rising order
abbrev pub concerned_below : Setup → Session → ℕ → List ℕ
concerned_below setup x zero = []
concerned_below setup x (suc n) = concerned_below setup x n ++ (if is_concerned_shard setup x n then n ∷ [] else [])

abbrev pub concerned : Setup → Session → List ℕ
concerned setup x = concerned_below setup x setup.shards

-- well formed, and the shard is concerned
abbrev pub is_fit : Setup → ℕ → Session → Bool
is_fit setup shard x = Seen.well_formed setup.rules (setup.session_of x) && is_concerned_shard setup x shard

-- the check of each trace says yes
abbrev pub is_session_approved : Setup → Session → Bool
is_session_approved setup x = (setup.session_of x).transaction.approved

abbrev pub vote_from : Shard.Vote → Vote
vote_from Shard.Commit = Commit
vote_from Shard.Abort = Abort

abbrev pub entry_of : Setup → Action → Shard.Entry
entry_of setup (Prepare x) = Shard.Prepare (setup.session_of x)
entry_of setup (Decide vote x) = Shard.Decide (setup.session_of x) (vote_of vote)
