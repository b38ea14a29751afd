-- What a node works on: its table, its pool, and what it keeps for checkpoints; and what the execution of an action
-- makes of these.
use Rattle.std.specs.Prelude.{ℕ, Bool, true, false, if◌then◌else◌, List, [], length, Option, Some, None}
use Rattle.cs_base.specs.declared.node_id.NodeId.{NodeId}
use Rattle.cs_tx_types.specs.declared.session.Session.{Session}
use Rattle.cs_tx_types.specs.declared.vote.Vote.{Vote}
use Rattle.cs_tx_types.specs.declared.action.Action.{Action}
use Rattle.cs_tx_types.specs.declared.leaf.Leaf.{Leaf}
use Rattle.cs_tx_types.specs.declared.effect.Effect.{Effect as Result}
use Rattle.cs_tx_types.specs.declared.effect.Effect.TheVariants as result
use Rattle.cs_base.specs.declared.version.Version.TheVariants.{One}
use Rattle.cs_tx_types.specs.Log.{leaf_encoding}
use Rattle.cs_check_rules.specs.Chain.{Log, empty_log, with_slot}
use Rattle.cs_check_rules.specs.Keys.{start_keys, keys_after}
use Rattle.cs_check_rules.specs.Root.{root_under}
use Rattle.cs_check_rules.specs.Heads.{Heads}
use Rattle.cs_ledger.specs.Ledger.{Bytes}
use Rattle.cs_ledger.specs.Session.{Key, anchor}
use Rattle.cs_ledger.specs.Table as Shard
use Rattle.cs_ledger.specs.Table.{Table, Effect, Voted, Accepted, Aborted, Skipped, Void, Outcome, is_locked_by, exec, start}
use Rattle.cs_ledger.specs.Standing.{stands_accepted, stands_aborted, recorded}
use Rattle.cs_node_state.specs.Setup.{Setup, digest_of, entry_of, vote_from}
use Rattle.cs_tx_types.specs.Session.{session_in}
use Rattle.cs_node_state.specs.Pool.{Pool, pool_changed, with_ballot, without_session, entered_locked}

pub record Bench : Type 0 where
  pub table : Table
  pub keys : List Key  -- those of which the table knows something
  pub pool : Pool
  pub log : Log  -- what its checkpoints are made of
  pub heads : Heads  -- the last checkpoint of each other member that told one

-- before the first input
abbrev pub start_bench : Setup → ℕ → Bench
start_bench setup shard = record {
  table = start setup.rules shard;
  keys = start_keys setup.rules shard;
  pool = [];
  log = empty_log shard;
  heads = [];
}

abbrev pub is_locked_at : Table → Bytes → Option Key → Bool
is_locked_at t d None = false
is_locked_at t d (Some key) = is_locked_by d (t.at key).state

-- the session has its anchor in the shard locked
abbrev pub is_locked : Setup → ℕ → Table → Session → Bool
is_locked setup shard t x = is_locked_at t (digest_of setup x) (anchor setup.rules (setup.session_of x) shard)

-- accepted, or aborted, or neither
abbrev pub decided_by : Shard.Record → Bytes → Option Bool
decided_by r d = if stands_accepted r d then Some true else if stands_aborted r d then Some false else None

abbrev pub decided_at : Table → Bytes → Option Key → Option Bool
decided_at t d None = None
decided_at t d (Some key) = decided_by (t.at key) d

-- the standing of the session: whether it was accepted, once it is decided
abbrev pub decision_on : Setup → ℕ → Table → Session → Option Bool
decision_on setup shard t x = decided_at t (digest_of setup x) (anchor setup.rules (setup.session_of x) shard)

abbrev pub vote_read : Option Shard.Vote → Option Vote
vote_read None = None
vote_read (Some vote) = Some (vote_from vote)

abbrev pub noted_at : Table → Bytes → Option Key → Option Vote
noted_at t d None = None
noted_at t d (Some key) = vote_read (recorded (t.at key) d)

-- the vote that is on record on the session
abbrev pub noted : Setup → ℕ → Table → Session → Option Vote
noted setup shard t x = noted_at t (digest_of setup x) (anchor setup.rules (setup.session_of x) shard)

-- A session that was voted on is locked, or leaves; one on which a decision took effect leaves.
abbrev pub pool_after : Effect → Bool → Bytes → Session → Pool → Pool
pool_after (Voted vote) locked d x pool = if locked then entered_locked d x pool else without_session d pool
pool_after Accepted locked d x pool = without_session d pool
pool_after Aborted locked d x pool = without_session d pool
pool_after Skipped locked d x pool = pool
pool_after Void locked d x pool = pool

-- what an execution came to, and what it left
pub record Ran : Type 0 where
  pub effect : Effect
  pub bench : Bench

abbrev pub ran_of : Setup → ℕ → Bench → List Key → Session → Outcome → Ran
ran_of setup shard b keys x outcome = record {
  effect = outcome.effect;
  bench = record b {
    table = outcome.table;
    keys = keys;
    pool = pool_after outcome.effect (is_locked setup shard outcome.table x) (digest_of setup x) x b.pool;
  };
}

abbrev pub executed : Setup → ℕ → Bench → Action → Ran
executed setup shard b action =
    ran_of setup shard b (keys_after setup.rules shard b.table (entry_of setup action) b.keys) (session_in action)
    (exec setup.rules shard b.table (entry_of setup action))

-- ---- the log

abbrev pub effect_from : Effect → Result
effect_from (Voted vote) = result.Voted (vote_from vote)
effect_from Accepted = result.Accepted
effect_from Aborted = result.Aborted
effect_from Skipped = result.Skipped
effect_from Void = result.Void

-- What was executed next, and what that came to. The log is that of version 1: a slot of it has one action.
abbrev pub next_leaf : Bench → Action → Effect → Leaf
next_leaf b action effect =
    record { slot = length b.log.leaves; place = 0; action = action; result = effect_from effect }

-- it stands in the log
abbrev pub with_leaf : Leaf → Bench → Bench
with_leaf leaf b = record b { log = with_slot (leaf_encoding One leaf) (root_under b.keys b.table) b.log }

-- what is kept after an action was executed
abbrev pub action_executed : Setup → ℕ → Bench → Action → Bench
action_executed setup shard b action =
    let ran = executed setup shard b action in
    with_leaf (next_leaf b action ran.effect) ran.bench

-- ---- votes

-- the vote that an execution gave, with the mark that the node asks for the others' votes
abbrev pub told_by : Effect → Bool → Option (Vote × Bool)
told_by (Voted vote) asks = Some (vote_from vote, asks)
told_by Accepted asks = None
told_by Aborted asks = None
told_by Skipped asks = None
told_by Void asks = None

abbrev pub vote_told : Setup → ℕ → Session → Ran → Option (Vote × Bool)
vote_told setup shard x ran = told_by ran.effect (is_locked setup shard ran.bench.table x)

-- a node takes its own vote where it asks for the others'
abbrev pub own_pool : NodeId → Bytes → Option (Vote × Bool) → Pool → Pool
own_pool me d None pool = pool
own_pool me d (Some told) pool =
    if told.1
    then pool_changed d (with_ballot (record { sender = me; vote = told.0 })) pool
    else pool

-- what an execution leaves, with the node's own vote
abbrev pub bench_executed : Setup → NodeId → Bench → Action → Bench
bench_executed setup me b action =
    let ran = executed setup me.shard b action in
    record ran.bench {
      pool = own_pool me
          (digest_of setup (session_in action)) (vote_told setup me.shard (session_in action) ran) ran.bench.pool;
    }
