-- A shard's log, executed anew.
use Rattle.std.specs.Prelude.{ℕ, List, [], ◌∷◌}
use Rattle.cs_tx_types.specs.declared.leaf.Leaf.{Leaf}
use Rattle.cs_base.specs.declared.version.Version.TheVariants.{One}
use Rattle.cs_tx_types.specs.Log.{leaf_encoding}
use Rattle.cs_ledger.specs.Session.{Key}
use Rattle.cs_ledger.specs.Table.{Table, Outcome, exec, start}
use Rattle.cs_check_rules.specs.Chain.{Log, empty_log, with_slot}
use Rattle.cs_check_rules.specs.Keys.{start_keys, keys_after}
use Rattle.cs_check_rules.specs.Root.{root_under}
use Rattle.cs_node_state.specs.Setup.{Setup, entry_of}

-- what the slots of a shard came to so far
pub record Stand : Type 0 where
  pub table : Table
  pub keys : List Key  -- those of which the table knows something
  pub log : Log  -- what the shard's checkpoints are made of

abbrev pub start_stand : Setup → ℕ → Stand
start_stand setup shard = record {
  table = start setup.rules shard;
  keys = start_keys setup.rules shard;
  log = empty_log shard;
}

-- what the entry of a leaf comes to
abbrev pub outcome_of : Setup → ℕ → Table → Leaf → Outcome
outcome_of setup shard t leaf = exec setup.rules shard t (entry_of setup leaf.action)

-- the leaf with the root over these records
abbrev pub log_behind_leaf : Leaf → List Key → Table → Log → Log
log_behind_leaf leaf keys t log = with_slot (leaf_encoding One leaf) (root_under keys t) log

-- after one slot more
abbrev pub after_leaf : Setup → ℕ → Stand → Leaf → Stand
after_leaf setup shard stand leaf =
    let t = (outcome_of setup shard stand.table leaf).table in
    let keys = keys_after setup.rules shard stand.table (entry_of setup leaf.action) stand.keys in
    record { table = t; keys = keys; log = log_behind_leaf leaf keys t stand.log }

abbrev pub after_leaves : Setup → ℕ → Stand → List Leaf → Stand
after_leaves setup shard stand [] = stand
after_leaves setup shard stand (leaf ∷ leaves) = after_leaves setup shard (after_leaf setup shard stand leaf) leaves
