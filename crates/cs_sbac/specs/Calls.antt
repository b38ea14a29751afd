-- What calls on table, pool and archive together answer, and what they leave.
use Rattle.std.specs.Prelude.{◌≡◌, Bool, true, false, if◌then◌else◌, Option, Some, None}
use Rattle.cs_tx.specs.Votes.{vote_of}
use Rattle.cs_base.specs.declared.node_id.NodeId.{NodeId}
use Rattle.cs_ledger.specs.Ledger.{Bytes}
use Rattle.cs_ledger.specs.Session.{Key}
use Rattle.cs_ledger.specs.Table as Shard
use Rattle.cs_tx_types.specs.declared.session.Session.{Session}
use Rattle.cs_tx_types.specs.declared.action.Action.{Action}
use Rattle.cs_tx_types.specs.declared.action.Action.TheVariants.{Prepare, Decide}
use Rattle.cs_tx_types.specs.declared.transaction.Tx.{Tx}
use Rattle.cs_tx.specs.Sessions.{ledger_session}
use Rattle.cs_tx_types.specs.declared.effect.Effect.{Effect}
use Rattle.cs_tx_types.specs.declared.effect.Effect.TheVariants.{Voted, Accepted, Aborted, Skipped, Void}
use Rattle.cs_check_rules.specs.Chain.{Log}
use Rattle.cs_table.specs.declared.standing.Standing.{Standing}
use Rattle.cs_table.specs.declared.standing.Standing.TheVariants as Standings
use Rattle.cs_table.specs.Seen.{Stored}
use Rattle.cs_table.specs.Changes.{Becomes}
use Rattle.cs_table.specs.Effects.{effect_of}
use Rattle.cs_table.specs.Calls.{anchor_in, prepare_outcome, decide_outcome}
use Rattle.cs_node_state.specs.declared.ballot.Ballot.{Ballot}
use Rattle.cs_node_state.specs.Setup.{Setup}
use Rattle.cs_tx_types.specs.Session.{session_in}
use Rattle.cs_node_state.specs.Pool.{Pool, pool_has_room, pushed, pool_changed, with_ballot, entered_locked, without_session}
use Rattle.cs_node_state.specs.Bench.{executed, bench_executed, pool_after, told_by, vote_told, own_pool, is_locked_at}
use Rattle.cs_sbac.specs.Held.{Held, bench_of}
use Rattle.cs_sbac.specs.declared.answers.Entered.{Entered}
use Rattle.cs_sbac.specs.declared.answers.Entered.TheVariants.{New, Full}
use Rattle.cs_sbac.specs.declared.answers.Outcome.{Outcome}

-- a new session enters where one more may wait
abbrev pub entered_in : Pool → Entered
entered_in pool = if pool_has_room pool then New else Full

abbrev pub pool_entered : Bytes → Session → Pool → Pool
pool_entered d x pool = if pool_has_room pool then pushed d x false pool else pool

-- the same with a first vote on it
abbrev pub pool_entered_with : Bytes → Session → Ballot → Pool → Pool
pool_entered_with d x ballot pool =
    if pool_has_room pool
    then pool_changed d (with_ballot ballot) (pushed d x false pool)
    else pool

-- whether a session was accepted, once it is decided
abbrev pub accepted_by : Standing → Option Bool
accepted_by Standings.Accepted = Some true
accepted_by Standings.Aborted = Some false
accepted_by Standings.Open = None

-- a session that was voted on is locked, or leaves
abbrev pub placed : Bool → Bytes → Session → Pool → Pool
placed locked d x pool = if locked then entered_locked d x pool else without_session d pool

-- the execution of an action behind a log answered this, and left this
pub record Executes (setup : Setup) (log : Log) (entry : Action) (old new : Held) (answer : Outcome) : Type 0 where
  pub effect_is : effect_of answer.effect ≡ (executed setup old.me.shard (bench_of log old) entry).effect
  pub voted_is : answer.voted
      ≡ vote_told setup old.me.shard (session_in entry) (executed setup old.me.shard (bench_of log old) entry)
  pub bench_is : bench_of log new ≡ bench_executed setup old.me (bench_of log old) entry
  pub config_stays : new.config ≡ old.config
  pub me_stays : new.me ≡ old.me
  pub archived_stays : new.archived ≡ old.archived

-- one on which a decision took effect leaves
abbrev pub left : Effect → Bytes → Pool → Pool
left Accepted d pool = without_session d pool
left Aborted d pool = without_session d pool
left (Voted vote) d pool = pool
left Skipped d pool = pool
left Void d pool = pool

-- The table came to this outcome on the session x of this digest, whose anchor is this.
pub record RunsSession (me : NodeId) (x : Session) (d : Bytes) (outcome : Shard.Outcome) (anchor : Option Key)
    (told tnew : Stored) (pold pnew : Pool) (answer : Outcome) : Type 0 where
  pub effect_is : effect_of answer.effect ≡ outcome.effect
  pub voted_is : answer.voted ≡ told_by outcome.effect (is_locked_at outcome.table d anchor)
  pub table_is : Becomes told tnew outcome.table
  pub pool_is : pnew ≡ own_pool me d (told_by outcome.effect (is_locked_at outcome.table d anchor))
      (pool_after outcome.effect (is_locked_at outcome.table d anchor) d x pold)

abbrev pub RunsEntry : (Tx → Bool) → NodeId → Action → Stored → Stored → Pool → Pool → Outcome → Type 0
RunsEntry approves me (Prepare x) told tnew pold pnew answer =
    RunsSession me x (ledger_session approves x).digest
    (prepare_outcome told (ledger_session approves x)) (anchor_in told (ledger_session approves x))
    told tnew pold pnew answer
RunsEntry approves me (Decide vote x) told tnew pold pnew answer =
    RunsSession me x (ledger_session approves x).digest
    (decide_outcome told (ledger_session approves x) (vote_of vote)) (anchor_in told (ledger_session approves x))
    told tnew pold pnew answer
