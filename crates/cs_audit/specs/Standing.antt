-- A shard whose log is executed anew, and what its calls come to.
use Rattle.std.specs.Prelude.{◌≡◌, Bool, List, Option, Some, None}
use Rattle.cs_tx.specs.Votes.{vote_of}
use Rattle.cs_tx_types.specs.declared.effect.Effect.{Effect}
use Rattle.cs_tx_types.specs.declared.action.Action.{Action}
use Rattle.cs_tx_types.specs.declared.action.Action.TheVariants.{Prepare, Decide}
use Rattle.cs_tx_types.specs.declared.leaf.Leaf.{Leaf}
use Rattle.cs_tx_types.specs.declared.transaction.Tx.{Tx}
use Rattle.cs_tx.specs.Sessions as seen
use Rattle.cs_ledger.specs.Ledger.{Bytes}
use Rattle.cs_ledger.specs.Table as ledger
use Rattle.cs_table.specs.Calls.{anchor_in}
use Rattle.cs_table.specs.Effects.{effect_of}
use Rattle.cs_table.specs.Pieces.{rules_in}
use Rattle.cs_table.specs.Seen.{Stored, seen as shown}
use Rattle.cs_check_rules.specs.Chain.{Log, kept_of}
use Rattle.cs_check.specs.Root.{keys_in}
use Rattle.cs_check.specs.Leaves.{HasLeavesBut}
use Rattle.cs_check_rules.specs.Keys.{keys_after}
use Rattle.cs_node_state.specs.Setup.{Setup, entry_of}
use Rattle.cs_audit_rules.specs.declared.verdict.Rule.{Rule}
use Rattle.cs_audit_rules.specs.Slots.{broken_by}
use Rattle.cs_audit_rules.specs.Stands as rules
use Rattle.cs_audit.specs.declared.stand.Stand.{Stand}

-- what the shard shows, where this is its log
abbrev pub stand_of : Log → Stand → rules.Stand
stand_of log s = record { table = shown s.table; keys = keys_in s.table.rows; log = log }

-- its table is that of the shard, and the leaves of all keys that aren't touched are those of the table
pub record IsPlaced (s : Stand) : Type 0 where
  pub shards : s.table.shards ≡ s.config.shards
  pub shard : s.table.shard ≡ s.shard
  pub leaves : HasLeavesBut s.table.touched s.chain.hashed (shown s.table)

-- ---- an entry

-- as the ledger sees it, where these transactions are approved
abbrev pub entry_seen : (Tx → Bool) → Action → ledger.Entry
entry_seen approves (Prepare x) = ledger.Prepare (seen.ledger_session approves x)
entry_seen approves (Decide vote x) = ledger.Decide (seen.ledger_session approves x) (vote_of vote)

-- what the table makes of it
abbrev pub acted : Stored → ledger.Entry → ledger.Outcome
acted table entry =
    ledger.act (rules_in table.shards) table.shard (shown table) entry (anchor_in table (ledger.session_of entry))

-- what executing it comes to
abbrev pub stand_outcome : Setup → Stand → Action → ledger.Outcome
stand_outcome setup s entry = ledger.exec setup.rules s.shard (shown s.table) (entry_of setup entry)

-- it was executed, and its effect was this
pub record StandExecutes (setup : Setup) (entry : Action) (old new : Stand) (effect : Effect) : Type 0 where
  pub effect_is : effect_of effect ≡ (stand_outcome setup old entry).effect
  pub table_is : shown new.table ≡ (stand_outcome setup old entry).table
  pub keys_are : keys_in new.table.rows
      ≡ keys_after setup.rules old.shard (shown old.table) (entry_of setup entry) (keys_in old.table.rows)
  pub chain_stays : new.chain ≡ old.chain
  pub config_stays : new.config ≡ old.config
  pub shard_stays : new.shard ≡ old.shard
  pub placed : IsPlaced new

-- ---- a leaf

-- the log with it, and with the root over what is stored then
abbrev pub log_with : Leaf → Log → Stand → Log
log_with leaf log new = rules.log_behind_leaf leaf (keys_in new.table.rows) (shown new.table) log

-- the shard went on behind it
pub record StandFollows (setup : Setup) (log : Log) (leaf : Leaf) (old new : Stand) : Type 0 where
  pub stand_is : stand_of (log_with leaf log new) new ≡ rules.after_leaf setup old.shard (stand_of log old) leaf
  pub kept_is : new.chain.kept ≡ kept_of (log_with leaf log new)
  pub config_stays : new.config ≡ old.config
  pub shard_stays : new.shard ≡ old.shard
  pub placed : IsPlaced new

-- it broke no rule, and the shard went on behind it; or this is the first rule that it breaks
abbrev pub TellsLeaf : Setup → Log → List Bytes → Leaf → Stand → Stand → Option Rule → Type 0
TellsLeaf setup log heads leaf old new None =
    (broken_by setup old.shard heads (stand_of log old) leaf ≡ None) × StandFollows setup log leaf old new
TellsLeaf setup log heads leaf old new (Some rule) =
    broken_by setup old.shard heads (stand_of log old) leaf ≡ Some rule
