-- The limits of the program by their numbers: other definitions have them by their names.
use Rattle.std.specs.Prelude.{◌≡◌}
use Rattle.cs_base.specs.declared.limits.TheConstants.{MOST_SHARDS, MOST_LIARS, MOST_DUMMIES, MOST_READERS, LEAST_DATAGRAM, MOST_DATAGRAM, MOST_GENESIS, MOST_SCHEDULE, MOST_EVENTS, MOST_SENT, MOST_OBJECT, MOST_TX, MOST_SESSION, MOST_ENTRY, BOOK_PLACES, MOST_WAITING, LAST_VIEW, LAST_SLOT, SLOTS_AHEAD, MOST_ECHOED}
use Rattle.cs_base.specs.declared.node_id.TheConstants.{CLIENTS}
use Rattle.cs_tx_types.specs.declared.limits.TheConstants.{MOST_TRACES, MOST_TRACE_OBJECTS, MOST_TRACE_VALUES, MOST_DEPS, COVERED}
use Rattle.cs_check_rules.specs.declared.kept.TheConstants.{KEPT_SLOTS}
use Rattle.cs_lang_token.specs.declared.limits.TheConstants.{MOST_TEXT, MOST_COST}
use Rattle.cs_sched.specs.declared.limits.TheConstants.{MOST_CONTRACTS}
use Rattle.cs_gen.specs.declared.limits.TheConstants.{MOST_SIZE}
use Rattle.cs_config.specs.declared.limits.TheConstants.{LEAST_TICK, MOST_TICK}
use Rattle.cs_onetime.specs.declared.wallet.TheConstants.{LAST_NUMBER, MOST_USED}
use Rattle.cs_wallet.specs.declared.loading.TheConstants.{MOST_WALLET}
use Rattle.cs_dummies.specs.declared.limits.TheConstants.{MOST_ASKED}
use Rattle.cs_serve.specs.declared.receiving.TheConstants.{MOST_MISSED}
use Rattle.cs_deploy.specs.declared.loading.TheConstants.{MOST_FILE}
use Rattle.cs_deploy.specs.declared.limits.TheConstants.{MOST_MASTER, MOST_TRIES}
use Rattle.cs_audit_dump.specs.declared.limits.TheConstants.{MOST_DUMP}

-- those of a deployment
pub record DeploymentLimitsAre : Type 0 where
  pub shards : MOST_SHARDS ≡ 16
  pub liars : MOST_LIARS ≡ 5  -- of a shard
  pub dummies : MOST_DUMMIES ≡ 64
  pub readers : MOST_READERS ≡ 64  -- of an object at a time
  pub clients : CLIENTS ≡ 16
  pub datagram : MOST_DATAGRAM ≡ 32768  -- bytes
  pub least_tick : LEAST_TICK ≡ 20  -- milliseconds between ticks
  pub most_tick : MOST_TICK ≡ 10000
  pub missed : MOST_MISSED ≡ 64  -- receives that fail in a row
  pub file : MOST_FILE ≡ 16777216  -- bytes
  pub master : MOST_MASTER ≡ 65  -- bytes of a master key that is read
  pub wallet : MOST_WALLET ≡ 16777216  -- bytes
  pub used : MOST_USED ≡ 65536  -- numbers of a wallet that have signed
  pub number : LAST_NUMBER ≡ 9223372036854775807  -- of a key
  pub tries : MOST_TRIES ≡ 64  -- of a call
  pub asked : MOST_ASKED ≡ 64  -- dummies of a shard, from a serial on

-- those of texts
pub record TextLimitsAre : Type 0 where
  pub contract : MOST_TEXT ≡ 65536  -- bytes
  pub cost : MOST_COST ≡ 1000000  -- of a check
  pub contracts : MOST_CONTRACTS ≡ 64
  pub genesis : MOST_GENESIS ≡ 65536
  pub schedule : MOST_SCHEDULE ≡ 16777216  -- bytes, and of a claim
  pub events : MOST_EVENTS ≡ 1000000
  pub sent : MOST_SENT ≡ 268435456  -- bytes that the nodes of a replay send
  pub dump : MOST_DUMP ≡ 67108864  -- bytes
  pub size : MOST_SIZE ≡ 1000  -- of a simulation

-- those of transactions, and of what a shard keeps
pub record LedgerLimitsAre : Type 0 where
  pub object : MOST_OBJECT ≡ 4096  -- bytes, as the next three
  pub transaction : MOST_TX ≡ 8192
  pub session : MOST_SESSION ≡ 8351
  pub entry : MOST_ENTRY ≡ 8353
  pub traces : MOST_TRACES ≡ 16
  pub objects : MOST_TRACE_OBJECTS ≡ 64  -- inputs, references or outputs of a trace
  pub values : MOST_TRACE_VALUES ≡ 16  -- parameters or returns of one
  pub deps : MOST_DEPS ≡ 15
  pub book : BOOK_PLACES ≡ 1024
  pub waiting : MOST_WAITING ≡ 4096  -- sessions at a node

-- those of slots, views and checkpoints
pub record OrderLimitsAre : Type 0 where
  pub least : LEAST_DATAGRAM ≡ 49  -- bytes
  pub view : LAST_VIEW ≡ 1023
  pub slot : LAST_SLOT ≡ 4611686018427387903
  pub ahead : SLOTS_AHEAD ≡ 15  -- above the open slot
  pub echoed : MOST_ECHOED ≡ 16  -- digests of a member in a slot
  pub covered : COVERED ≡ 16  -- slots of a checkpoint
  pub kept : KEPT_SLOTS ≡ 1024
