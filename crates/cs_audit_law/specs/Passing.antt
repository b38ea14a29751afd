-- That such logs break no rule.
use Rattle.std.specs.Prelude.{◌≡◌, ◌<◌, ◌≤◌, ◌^◌, ℕ, List, [], length, map, None}
use Rattle.std.specs.List.{All}
use Rattle.cs_base.specs.declared.version.Version.TheVariants.{One}
use Rattle.cs_tx_types.specs.Log.{LeafFits}
use Rattle.cs_ledger.specs.Ledger.{Bytes, genesis_ledger}
use Rattle.cs_ledger.specs.ShardWorld.{AllAllowed, AreNamedApart, sessions}
use Rattle.cs_node_state.specs.Setup.{Setup}
use Rattle.cs_node_rules.specs.Site.{Site}
use Rattle.cs_node_rules.specs.World.{Happening, Execution, steps_of, firsts_of, told_transactions}
use Rattle.cs_world_law.specs.Steps.{AllComputed}
use Rattle.cs_world_law.specs.Worlds.{ExecutesFit}
use Rattle.cs_audit_dump.specs.declared.dump.Dump.{Dump}
use Rattle.cs_audit_rules.specs.Slots.{logs_fault}
use Rattle.cs_audit_rules.specs.Support.{support_fault}
use Rattle.cs_audit_rules.specs.History.{transactions, history_fault}
use Rattle.cs_audit_rules.specs.Verdicts.{first_fault}
use Rattle.cs_replay_rules.specs.Dumps.{shard_log}
use Rattle.cs_audit_law.specs.Dumped.{dumped_leaves, dumped_stand, dumped_logs}

-- In version 1 each step may be taken after those before it, and its result is what it comes to. Digests tell sessions
-- and transactions apart, and names outputs and genesis objects.
pub record AreSteps (setup : Setup) (firsts : List Execution) : Type 0 where
  pub first : setup.version ≡ One
  pub allowed : AllAllowed setup.rules (steps_of setup firsts)
  pub computed : AllComputed setup firsts
  pub apart : AreNamedApart setup.rules.genesis (sessions (steps_of setup firsts))

abbrev pub LogsBreakNoRule : Type 0
LogsBreakNoRule =
    (setup : Setup) (firsts : List Execution) → AreSteps setup firsts → (shards : ℕ)
    → logs_fault setup 0 (dumped_logs setup firsts shards) ≡ None

-- each object is of one of the shards
abbrev pub AreWithin : Setup → Type 0
AreWithin setup = (name : Bytes) → setup.rules.shard_of name < setup.shards

abbrev pub DecisionsHaveVotes : Type 0
DecisionsHaveVotes =
    (setup : Setup) → AreWithin setup → (firsts : List Execution) → AreSteps setup firsts
    → let logs = dumped_logs setup firsts setup.shards in support_fault setup logs 0 logs ≡ None

-- the digests of the transactions that they tell
abbrev pub told_digests : Setup → List Execution → List Bytes
told_digests setup firsts = map (λ tx. tx.digest) (told_transactions setup firsts)

abbrev pub HistoryIsWhole : Type 0
HistoryIsWhole =
    (setup : Setup) → AreWithin setup → (firsts : List Execution) → AreSteps setup firsts
    → let logs = dumped_logs setup firsts setup.shards in
    history_fault (transactions setup logs) (genesis_ledger setup.rules.genesis) [] (told_digests setup firsts) ≡ None

-- a dump of the logs of a world and of its history breaks no rule
abbrev pub PassesAudit : {M : Type 0} → Site M → List (Happening M) → Type 0
PassesAudit {M} site world =
    (dump : Dump) → dump.logs ≡ dumped_logs site.setup (firsts_of world) site.setup.shards
    → dump.history ≡ told_digests site.setup (firsts_of world) → first_fault site.setup dump ≡ None

-- what a replay dumps of a shard, the longest log of its honest nodes, is that of the shard's first executions
abbrev pub DumpsFirsts : {M : Type 0} → Site M → List (Happening M) → Type 0
DumpsFirsts {M} site world =
    (shard : ℕ) → shard_log site world shard ≡ (dumped_stand site.setup shard (firsts_of world)).log

-- Where what nodes execute has encodings, so have the leaves of a shard's first executions, while slots fit into 64
-- bits.
abbrev pub LeavesFit : {M : Type 0} → Site M → List (Happening M) → Type 0
LeavesFit {M} site world =
    ExecutesFit site world → (shard : ℕ) → let leaves = dumped_leaves shard (firsts_of world) in
    length leaves ≤ 2 ^ 64 → All (LeafFits One) leaves
