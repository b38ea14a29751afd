-- What a contract sees of the table, the pool and the archive of a node.
use Rattle.std.specs.Prelude.{◌≡◌, Bool, true}
use Rattle.cs_base.specs.declared.config.Config.{Config}
use Rattle.cs_base.specs.declared.node_id.NodeId.{NodeId}
use Rattle.cs_base.specs.NodeId.{is_node}
use Rattle.cs_table.specs.Seen.{Stored, seen, forgotten}
use Rattle.cs_check_rules.specs.Chain.{Log, kept_of}
use Rattle.cs_check.specs.Leaves.{HasLeavesBut}
use Rattle.cs_check.specs.Root.{keys_in}
use Rattle.cs_check.specs.Archives.{Archived}
use Rattle.cs_node_state.specs.Pool.{Pool}
use Rattle.cs_node_state.specs.Bench.{Bench}
use Rattle.cs_tx_types.specs.declared.session.Session.{Session}
use Rattle.cs_node_state.specs.Setup.{is_fit}
use Rattle.cs_node_pool.specs.Deployed.{AtEverySetup}
use Rattle.cs_node_pool.specs.Gathered.{Gathered}

pub record Held : Type 0 where
  pub config : Config
  pub me : NodeId
  pub table : Stored
  pub pool : Pool
  pub archived : Archived

-- a node of the configuration, and a table of its shard
pub record IsOfNode (config : Config) (me : NodeId) (table : Stored) : Type 0 where
  pub node : is_node config me ≡ true
  pub shards : table.shards ≡ config.shards
  pub shard : table.shard ≡ me.shard

-- So, and the leaves of all keys that aren't touched are those of the table, unless memory ran out in the midst of a slot;
-- and the pool has the same configuration.
pub record IsSoundBench (whole : Bool) (config : Config) (me : NodeId)
    (table : Stored) (pool : Gathered) (archived : Archived) : Type 0 where
  pub node : is_node config me ≡ true
  pub same : pool.config ≡ config
  pub placed : whole ≡ true → IsOfNode config me table
  pub leaves : whole ≡ true → HasLeavesBut table.touched archived.hashed (seen table)

-- the session is well formed, and concerns the shard, whatever the genesis and the checks say
abbrev pub IsFit : Held → Session → Type 0
IsFit held x = AtEverySetup held.config (λ setup. is_fit setup held.me.shard x ≡ true)

-- what the node works on, where this is its log
abbrev pub bench_of : Log → Held → Bench
bench_of log held = record {
  table = seen held.table;
  keys = keys_in held.table.rows;
  pool = held.pool;
  log = log;
  heads = held.archived.heads;
}

-- it works on this, and keeps of its log what is to be kept
pub record KeepsBench (held : Held) (bench : Bench) : Type 0 where
  pub bench_is : bench_of bench.log held ≡ bench
  pub kept_is : held.archived.kept ≡ kept_of bench.log

abbrev pub with_pool : Held → Pool → Held
with_pool held pool = record held { pool = pool }

abbrev pub with_archived : Held → Archived → Held
with_archived held archived = record held { archived = archived }

abbrev pub with_forgotten : Held → Held
with_forgotten held = record held { table = forgotten held.table }
