-- The logs that first executions make, as a dump has them.
use Rattle.std.specs.Prelude.{ℕ, zero, suc, List, [], ◌∷◌, ◌++◌, length}
use Rattle.cs_tx_types.specs.declared.leaf.Leaf.{Leaf}
use Rattle.cs_ledger.specs.Ledger.{Bytes}
use Rattle.cs_check_rules.specs.Chain.{Log as ChainLog}
use Rattle.cs_node_state.specs.Setup.{Setup}
use Rattle.cs_replay_rules.specs.Dumps.{heads_below}
use Rattle.cs_node_rules.specs.World.{Execution}
use Rattle.cs_world_law.specs.Steps.{executions_of}
use Rattle.cs_world_law.specs.Shown.{leaves_of}
use Rattle.cs_audit_dump.specs.declared.dump.Log.{Log}
use Rattle.cs_audit_rules.specs.Stands.{Stand, start_stand, after_leaves}

abbrev pub dumped_leaves : ℕ → List Execution → List Leaf
dumped_leaves shard firsts = leaves_of (executions_of shard firsts)

-- what executing them comes to
abbrev pub dumped_stand : Setup → ℕ → List Execution → Stand
dumped_stand setup shard firsts = after_leaves setup shard (start_stand setup shard) (dumped_leaves shard firsts)

-- the heads of all checkpoints that are made
abbrev pub all_heads : ChainLog → List Bytes
all_heads log = heads_below log (length log.table_roots)

abbrev pub dumped_log : Setup → List Execution → ℕ → Log
dumped_log setup firsts shard = record {
  leaves = dumped_leaves shard firsts;
  heads = all_heads (dumped_stand setup shard firsts).log;
}

-- of the first shards, so many
abbrev pub dumped_logs : Setup → List Execution → ℕ → List Log
dumped_logs setup firsts zero = []
dumped_logs setup firsts (suc n) = dumped_logs setup firsts n ++ dumped_log setup firsts n ∷ []
