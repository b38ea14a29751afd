-- The marks of a node that are no deeds of its order, and what they make of table and pool. Lists of marks are newest
-- first.
use Rattle.std.specs.Prelude.{ℕ, suc, Bool, true, false, not, ◌&&◌, ◌==◌, if◌then◌else◌, List, [], ◌∷◌, ◌++◌, Option, Some, None}
use Rattle.cs_base.specs.declared.key.Key.{Key}
use Rattle.cs_base.specs.declared.node_id.NodeId.{NodeId}
use Rattle.cs_base.specs.Key.{shard_of_key}
use Rattle.cs_base.specs.NodeId.{is_client}
use Rattle.cs_tx_types.specs.declared.session.Session.{Session}
use Rattle.cs_tx_types.specs.declared.vote.Vote.{Vote}
use Rattle.cs_tx_types.specs.declared.vote.Vote.TheVariants.{Commit}
use Rattle.cs_tx_types.specs.declared.action.Action.{Action}
use Rattle.cs_tx_types.specs.declared.entry.Entry.{Entry}
use Rattle.cs_tx_types.specs.declared.checkpoint.Checkpoint.{Checkpoint}
use Rattle.cs_tx_types.specs.declared.proof.Proof.{Proof}
use Rattle.cs_check_rules.specs.Chain.{head_of, made_last}
use Rattle.cs_wire_message.specs.declared.message.Message.{Message}
use Rattle.cs_wire_message.specs.declared.message.Message.TheVariants as message
use Rattle.cs_ledger.specs.Ledger.{Bytes}
use Rattle.cs_ledger.specs.Table.{Effect}
use Rattle.cs_node_rules.specs.declared.cause.Cause.{Cause}
use Rattle.cs_node_rules.specs.declared.cause.Cause.TheVariants.{Mine, Role, Malformed, Repeat, Unasked, Denied, Full, NoProof}
use Rattle.cs_node_state.specs.declared.pooled.Pooled.{Pooled}
use Rattle.cs_node_state.specs.Setup.{Setup, digest_of, is_concerned_shard, concerned, is_fit, is_session_approved}
use Rattle.cs_tx_types.specs.Session.{session_in}
use Rattle.cs_node_state.specs.Evidence.{has_voted}
use Rattle.cs_node_rules.specs.Members.{is_other_member, others}
use Rattle.cs_node_state.specs.Pool.{Pool, found, is_pooled, pool_changed, with_ballot, entered, pool_has_room}
use Rattle.cs_node_state.specs.Bench.{Bench, Ran, executed, action_executed, decision_on, noted, vote_told}
use Rattle.cs_check_rules.specs.Proofs.{proof_of}
use Rattle.cs_check_rules.specs.Heads.{is_news, with_head}
use Rattle.cs_node_state.specs.Asked.{told_at, key_asked}

pub data Sign : Type 0 where
  Dropped : (cause : Cause) → Sign
  Took : (sender : NodeId) → (vote : Vote) → (x : Session) → Sign
  Entered : (x : Session) → Sign
  Viewed : (slot view : ℕ) → Sign
  Did : (slot place : ℕ) → (action : Action) → (effect : Effect) → Sign
  Headed : (number : ℕ) → (head : Bytes) → Sign
  Kept : (index : ℕ) → (checkpoint : Checkpoint) → Sign
  Sent : (to : NodeId) → (message : Message) → Sign

-- what one sign makes of what the node works on
abbrev pub bench_step : Setup → ℕ → Sign → Bench → Bench
bench_step setup shard (Dropped cause) b = b
bench_step setup shard (Took sender vote x) b =
    record b { pool = pool_changed (digest_of setup x) (with_ballot (record { sender = sender; vote = vote })) b.pool }
bench_step setup shard (Entered x) b = record b { pool = entered (digest_of setup x) x b.pool }
bench_step setup shard (Viewed slot view) b = b
bench_step setup shard (Did slot place action effect) b = action_executed setup shard b action
bench_step setup shard (Headed number head) b = b
bench_step setup shard (Kept index checkpoint) b = record b { heads = with_head index checkpoint b.heads }
bench_step setup shard (Sent to message) b = b

abbrev pub bench_after : Setup → ℕ → List Sign → Bench → Bench
bench_after setup shard [] b = b
bench_after setup shard (sign ∷ past) b = bench_step setup shard sign (bench_after setup shard past b)

-- the first failing test drops
abbrev pub guarded : Bool → Cause → List Sign → List Sign
guarded holds cause signs = if holds then signs else Dropped cause ∷ []

-- a session that is undecided enters where it is new, approved, and has room
abbrev pub entering_signs : Setup → Bench → Session → List Sign
entering_signs setup b x =
    guarded (not (is_pooled (digest_of setup x) b.pool)) Repeat
    (guarded (is_session_approved setup x) Denied
    (guarded (pool_has_room b.pool) Full (Entered x ∷ [])))

-- the client of a decided session is told; an undecided one enters
abbrev pub submitted_signs : Setup → Bench → NodeId → Session → Option Bool → List Sign
submitted_signs setup b sender x (Some accepted) = Sent sender (message.Decided (digest_of setup x) accepted) ∷ []
submitted_signs setup b sender x None = entering_signs setup b x

-- a client submits a session
abbrev pub submit_signs : Setup → ℕ → Bench → NodeId → Session → List Sign
submit_signs setup shard b sender x =
    guarded (is_client sender) Role
    (guarded (is_fit setup shard x) Malformed
    (submitted_signs setup b sender x (decision_on setup shard b.table x)))

abbrev pub told_signs : Setup → ℕ → Bench → NodeId → Key → List Sign
told_signs setup shard b sender key =
    guarded (shard_of_key setup.shards key == shard) Mine (Sent sender (message.Told key (told_at b.table key)) ∷ [])

-- a client asks for the record of a key, or for a dummy that it may use
abbrev pub ask_signs : Setup → ℕ → Bench → NodeId → Option Key → List Sign
ask_signs setup shard b sender asked =
    guarded (is_client sender) Role (told_signs setup shard b sender (key_asked b.table shard asked))

-- ---- votes of other nodes

-- a vote on a session that isn't in the pool: it is answered by the vote on record, or the session enters with it
abbrev pub asking_signs : Setup → Bench → NodeId → Vote → Bool → Session → Option Vote → List Sign
asking_signs setup b sender vote asks x (Some noted) =
    guarded asks Unasked (Sent sender (message.Voted noted false x) ∷ [])
asking_signs setup b sender vote asks x None =
    guarded asks Unasked
    (guarded (is_session_approved setup x) Denied
    (guarded (pool_has_room b.pool) Full (Took sender vote x ∷ Entered x ∷ [])))

-- of each node the first vote on a session of the pool is taken
abbrev pub ballot_signs : Setup → ℕ → Bench → NodeId → Vote → Bool → Session → Option Pooled → List Sign
ballot_signs setup shard b sender vote asks x (Some p) =
    guarded (not (has_voted sender p.ballots)) Repeat (Took sender vote x ∷ [])
ballot_signs setup shard b sender vote asks x None =
    asking_signs setup b sender vote asks x (noted setup shard b.table x)

-- a node of a concerned shard votes on a session
abbrev pub voted_signs : Setup → ℕ → Bench → NodeId → Vote → Bool → Session → List Sign
voted_signs setup shard b sender vote asks x =
    guarded (not (is_client sender)) Role
    (guarded (is_fit setup shard x) Malformed
    (guarded (is_concerned_shard setup x sender.shard) Role
    (ballot_signs setup shard b sender vote asks x (found (digest_of setup x) b.pool))))

-- ---- executions

-- a message to each of these nodes, one after the other
abbrev pub sends : List NodeId → Message → List Sign
sends [] message = []
sends (to ∷ more) message = sends more message ++ Sent to message ∷ []

-- the vote goes to all other nodes of the concerned shards
abbrev pub vote_signs : Setup → NodeId → Session → Option (Vote × Bool) → List Sign
vote_signs setup me x None = []
vote_signs setup me x (Some told) = sends (others setup.f me (concerned setup x)) (message.Voted told.0 told.1 x)

-- the node's own vote
abbrev pub own_signs : NodeId → Session → Option (Vote × Bool) → List Sign
own_signs me x None = []
own_signs me x (Some told) = if told.1 then Took me told.0 x ∷ [] else []

-- the session that an execution brings into the pool
abbrev pub entered_signs : Session → Bool → Option (Vote × Bool) → List Sign
entered_signs x pooled None = []
entered_signs x pooled (Some told) = if told.1 && not pooled then Entered x ∷ [] else []

abbrev pub ran_signs : Setup → NodeId → Bench → ℕ → ℕ → Action → Session → Ran → List Sign
ran_signs setup me b slot place action x ran =
    own_signs me x (vote_told setup me.shard x ran)
    ++ (vote_signs setup me x (vote_told setup me.shard x ran)
    ++ (entered_signs x (is_pooled (digest_of setup x) b.pool) (vote_told setup me.shard x ran)
    ++ Did slot place action ran.effect ∷ []))

-- a checkpoint was made: its head is told to all other members
abbrev pub headed_signs : Setup → NodeId → Option Checkpoint → List Sign
headed_signs setup me None = []
headed_signs setup me (Some c) =
    sends (others setup.f me (me.shard ∷ [])) (message.Head c) ++ Headed c.number (head_of c) ∷ []

-- the actions of a slot from a place on are executed one after the other, each on what those before it left
abbrev pub actions_signs : Setup → NodeId → Bench → ℕ → ℕ → List Action → List Sign
actions_signs setup me b slot place [] = []
actions_signs setup me b slot place (action ∷ more) =
    let signs = ran_signs setup me b slot place action (session_in action) (executed setup me.shard b action) in
    actions_signs setup me (bench_after setup me.shard signs b) slot (suc place) more ++ signs

-- the entry of a slot is executed, and after every 16th slot a checkpoint is made
abbrev pub execution_signs : Setup → NodeId → Bench → ℕ → Entry → List Sign
execution_signs setup me b slot entry =
    let signs = actions_signs setup me b slot 0 entry.actions in
    headed_signs setup me (made_last (bench_after setup me.shard signs b).log) ++ signs

-- ---- checkpoints

abbrev pub proof_signs : NodeId → Option Proof → List Sign
proof_signs sender None = Dropped NoProof ∷ []
proof_signs sender (Some proof) = Sent sender (message.Proof proof) ∷ []

-- a client asks for the proof of a slot
abbrev pub ask_proof_signs : Bench → NodeId → ℕ → List Sign
ask_proof_signs b sender slot = guarded (is_client sender) Role (proof_signs sender (proof_of b.log slot))

-- another member tells a checkpoint: of each the last one is kept
abbrev pub head_signs : Setup → NodeId → Bench → NodeId → Checkpoint → List Sign
head_signs setup me b sender checkpoint =
    guarded (is_other_member setup.f me sender) Role
    (guarded (is_news sender.index checkpoint b.heads) Repeat (Kept sender.index checkpoint ∷ []))

-- ---- what is said to a node

-- what is said to a node, but for its order: a client asks, a node votes, a member tells its checkpoint
abbrev pub said_signs : Setup → NodeId → Bench → NodeId → Message → List Sign
said_signs setup me b sender (message.Submit x) = submit_signs setup me.shard b sender x
said_signs setup me b sender (message.Ask asked) = ask_signs setup me.shard b sender asked
said_signs setup me b sender (message.AskProof slot place) = ask_proof_signs b sender slot
said_signs setup me b sender (message.Voted vote asks x) = voted_signs setup me.shard b sender vote asks x
said_signs setup me b sender (message.Head checkpoint) = head_signs setup me b sender checkpoint
said_signs setup me b sender said = Dropped Role ∷ []

-- ---- ticks

-- the votes that are asked for again, of the locked sessions
abbrev pub asked_again : Setup → NodeId → Pool → List Sign
asked_again setup me [] = []
asked_again setup me (e ∷ pool) =
    asked_again setup me pool ++ (if e.1.locked then vote_signs setup me e.1.session (Some (Commit, true)) else [])
