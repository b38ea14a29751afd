-- What has happened at a node once a session's stated messages have arrived, phase by phase.
use Rattle.std.specs.Prelude.{◌≡◌, ℕ, true, List, ◌∷◌, ◌++◌, Some, None}
use Rattle.cs_base.specs.declared.node_id.NodeId.{NodeId}
use Rattle.cs_tx_types.specs.declared.session.Session.{Session}
use Rattle.cs_tx_types.specs.declared.vote.Vote.TheVariants.{Commit}
use Rattle.cs_tx_types.specs.declared.action.Action.{Action}
use Rattle.cs_tx_types.specs.declared.action.Action.TheVariants.{Prepare, Decide}
use Rattle.cs_wire_message.specs.declared.message.Message.TheVariants as message
use Rattle.cs_base.specs.Lists.{IsIn}
use Rattle.cs_ledger.specs.Session.{Key, Piece, anchor, used_up, read_only, objects_in}
use Rattle.cs_ledger.specs.Table as Shard
use Rattle.cs_node_state.specs.Setup.{Setup, digest_of, concerned}
use Rattle.cs_node_rules.specs.Members.{others}
use Rattle.cs_node_state.specs.Bench.{Bench, start_bench, executed, is_locked}
use Rattle.cs_node_rules.specs.Signs.{Sign, Did, Sent, bench_after}
use Rattle.cs_node_rules.specs.Site.{Site, View}
use Rattle.cs_node_rules.specs.Trail.{turn_marks}
use Rattle.cs_node_rules.specs.World.{Happening, view_of}

-- Each input and the dummy of the session here is Active, and each reference Active or Shared with a seat, with exactly
-- the carried object; it isn't in the anchor's book, which has room.
pub record IsFree (setup : Setup) (shard : ℕ) (t : Shard.Table) (x : Session) : Type 0 where
  pub key : Key
  pub is_anchor : anchor setup.rules (setup.session_of x) shard ≡ Some key
  pub ready : Shard.is_ready t
      (used_up setup.rules (setup.session_of x) shard) (read_only setup.rules (setup.session_of x) shard) ≡ true
  pub unvoted : Shard.vote_in (t.at key).book (digest_of setup x) ≡ None
  pub room : Shard.has_room (t.at key).book ≡ true

-- its inputs and its dummy here are Inactive by it, and its outputs here are Active
pub record IsDone (setup : Setup) (shard : ℕ) (t : Shard.Table) (x : Session) : Type 0 where
  pub used : (piece : Piece) → IsIn piece (used_up setup.rules (setup.session_of x) shard) →
      (t.at piece.key).state ≡ Shard.Inactive (digest_of setup x)
  pub made : (piece : Piece) → IsIn piece (objects_in setup.rules shard (setup.session_of x).transaction.outputs) →
      (t.at piece.key).state ≡ Shard.Active piece.object

-- the table and pool of a node after these signs
abbrev pub bench_at : Setup → ℕ → List Sign → Bench
bench_at setup shard signs = bench_after setup shard signs (start_bench setup shard)

-- an execution, with the signs before it; signs are newest first
pub record Executed (signs : List Sign) (entry : Action) : Type 0 where
  pub slot : ℕ
  pub place : ℕ
  pub effect : Shard.Effect
  pub later : List Sign
  pub earlier : List Sign
  pub split : signs ≡ later ++ Did slot place entry effect ∷ earlier

-- the vote commit went to all other nodes of the concerned shards, with the mark that it asks for theirs
abbrev pub TellsCommit : Setup → NodeId → List Sign → Session → Type 0
TellsCommit setup me signs x =
    (to : NodeId) → IsIn to (others setup.f me (concerned setup x)) → IsIn (Sent to (message.Voted Commit true x)) signs

-- first phase: a session that was free is voted commit, and the vote is sent
abbrev pub VotesFree : Setup → NodeId → List Sign → Type 0
VotesFree setup me signs =
    (x : Session) (e : Executed signs (Prepare x)) → IsFree setup me.shard (bench_at setup me.shard e.earlier).table x →
    (e.effect ≡ Shard.Voted Shard.Commit) × TellsCommit setup me e.later x

-- third phase: a session that holds its lock is accepted
abbrev pub AcceptsLocked : Setup → ℕ → List Sign → Type 0
AcceptsLocked setup shard signs =
    (x : Session) (e : Executed signs (Decide Commit x)) →
    is_locked setup shard (bench_at setup shard e.earlier).table x ≡ true →
    (e.effect ≡ Shard.Accepted)
    × IsDone setup shard (executed setup shard (bench_at setup shard e.earlier) (Decide Commit x)).bench.table x

-- second phase: no rule applies that has not been applied
abbrev pub IsQuiet : {M : Type 0} → Site M → View M → Type 0
IsQuiet {M} site v = turn_marks site v ≡ None

-- so it is at every honest node after these events
abbrev pub AllQuiet : {M : Type 0} → Site M → List (Happening M) → Type 0
AllQuiet {M} site world = (i : NodeId) → site.net.is_honest i ≡ true → IsQuiet site (view_of site world i)
