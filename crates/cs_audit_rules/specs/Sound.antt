-- A sound dump. No auditor is in it.
use Rattle.std.specs.Prelude.{◌≡◌, ℕ, Bool, true, List, ◌∷◌, ◌++◌, length, map, slice_get, Some, None}
use Rattle.cs_base.specs.Lists.{IsIn}
use Rattle.cs_tx_types.specs.declared.action.Action.{Action}
use Rattle.cs_tx_types.specs.declared.action.Action.TheVariants.{Prepare, Decide}
use Rattle.cs_tx_types.specs.declared.leaf.Leaf.{Leaf}
use Rattle.cs_tx_types.specs.declared.session.Session.{Session}
use Rattle.cs_tx_types.specs.declared.transaction.Tx.{Tx}
use Rattle.cs_ledger.specs.Ledger.{Bytes, Transaction, all_differ, Serial, genesis_ledger}
use Rattle.cs_ledger.specs.Session as Seen
use Rattle.cs_ledger.specs.Table.{Table, exec, start, table_after}
use Rattle.cs_check_rules.specs.Chain.{chain_head}
use Rattle.cs_table.specs.Effects.{effect_of}
use Rattle.cs_node_state.specs.Setup.{Setup, entry_of, is_session_approved}
use Rattle.cs_tx_types.specs.Session.{session_in}
use Rattle.cs_audit_dump.specs.declared.dump.Dump.{Dump}
use Rattle.cs_audit_dump.specs.declared.dump.Log.{Log}
use Rattle.cs_audit_dump.specs.Formed.{IsFormed}
use Rattle.cs_audit_rules.specs.declared.verdict.Verdict.{Verdict}
use Rattle.cs_audit_rules.specs.declared.verdict.Verdict.TheVariants.{Yes, No}
use Rattle.cs_audit_rules.specs.Stands.{start_stand, after_leaves}
use Rattle.cs_audit_rules.specs.Support.{all_logs_commit, is_supported}
use Rattle.cs_audit_rules.specs.Verdicts.{setup_in, first_fault}

-- ---- one log

-- the shard's table after these leaves
abbrev pub table_behind : Setup → ℕ → List Leaf → Table
table_behind setup shard leaves =
    table_after setup.rules shard (start setup.rules shard) (map (λ leaf. entry_of setup leaf.action) leaves)

abbrev pub IsJudged : Setup → Action → Type 0
IsJudged setup (Prepare x) = is_session_approved setup x ≡ true
IsJudged setup (Decide vote x) = Unit {0}

-- a leaf behind those before it
pub record IsSoundLeaf (setup : Setup) (shard : ℕ) (before : List Leaf) (leaf : Leaf) : Type 0 where
  pub slot : leaf.slot ≡ length before
  pub formed : Seen.well_formed setup.rules (setup.session_of (session_in leaf.action)) ≡ true
  pub concerned : Seen.concerns setup.rules (setup.session_of (session_in leaf.action)) shard ≡ true
  pub judged : IsJudged setup leaf.action
  pub result : effect_of leaf.result
      ≡ (exec setup.rules shard (table_behind setup shard before) (entry_of setup leaf.action)).effect

-- each leaf is so, and the heads are those of the checkpoints of what was executed
pub record IsSoundLog (setup : Setup) (shard : ℕ) (log : Log) : Type 0 where
  pub leaves : (before : List Leaf) (leaf : Leaf) (later : List Leaf) → log.leaves ≡ before ++ leaf ∷ later
      → IsSoundLeaf setup shard before leaf
  pub heads : (number : ℕ) → slice_get log.heads number
      ≡ chain_head (after_leaves setup shard (start_stand setup shard) log.leaves).log number

-- ---- the history

-- a session with a Prepare in a log, on which every concerned log has a vote commit
pub record IsCommitted (setup : Setup) (logs : List Log) (x : Session) : Type 0 where
  pub log : Log
  pub leaf : Leaf
  pub listed : IsIn log logs
  pub told : IsIn leaf log.leaves
  pub prepared : leaf.action ≡ Prepare x
  pub commits : all_logs_commit setup logs x ≡ true

-- a transaction of such a session
abbrev pub IsTransactionTaken : Setup → List Log → Transaction → Type 0
IsTransactionTaken setup logs tx = (x : Session) × IsCommitted setup logs x × ((setup.session_of x).transaction ≡ tx)

-- These digests are those of exactly the transactions that have such a session, each once, and the ledger takes them one
-- after the other.
pub record IsHistory (setup : Setup) (logs : List Log) (history : List Bytes) : Type 0 where
  pub differ : all_differ history ≡ true
  pub transactions : List Transaction
  pub named : map (λ tx. tx.digest) transactions ≡ history
  pub taken : (tx : Transaction) → IsIn tx transactions → IsTransactionTaken setup logs tx
  pub complete : (x : Session) → IsCommitted setup logs x → IsIn (setup.session_of x).transaction.digest history
  pub serial : Serial (genesis_ledger setup.rules.genesis) transactions

-- ---- the dump

pub record IsSoundDump (setup : Setup) (dump : Dump) (told : List Bytes) : Type 0 where
  pub logs : (shard : ℕ) (log : Log) → slice_get dump.logs shard ≡ Some log → IsSoundLog setup shard log
  pub support : (log : Log) (leaf : Leaf) → IsIn log dump.logs → IsIn leaf log.leaves → is_supported setup dump.logs leaf ≡ true
  pub history : IsHistory setup dump.logs told

-- a yes says that the dump is sound with that history
abbrev pub SaysSound : Setup → Dump → Verdict → Type 0
SaysSound setup dump (Yes history) = IsSoundDump setup dump history
SaysSound setup dump (No fault) = Unit {0}

-- a dump of which no rule is broken is sound
abbrev pub UnbrokenIsSound : Type 0
UnbrokenIsSound =
    (approves : Tx → Bool) (dump : Dump) → IsFormed dump → first_fault (setup_in approves dump) dump ≡ None
    → IsSoundDump (setup_in approves dump) dump dump.history
