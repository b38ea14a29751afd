-- What a node admits, and what is due at it.
use Rattle.std.specs.Prelude.{ℕ, ◌-◌, nat_lt, nat_le, Bool, false, ◌&&◌, if◌then◌else◌, List, [], ◌∷◌, ◌++◌, length, Option, Some, None}
use Rattle.std.specs.List.{list_all}
use Rattle.cs_base.specs.declared.limits.TheConstants.{MOST_ACTIONS, MOST_BATCH}
use Rattle.cs_base.specs.declared.version.Version.{Version}
use Rattle.cs_base.specs.declared.version.Version.TheVariants.{One, Two}
use Rattle.cs_tx_types.specs.declared.session.Session.{Session}
use Rattle.cs_tx_types.specs.declared.vote.Vote.{Vote}
use Rattle.cs_tx_types.specs.declared.action.Action.{Action}
use Rattle.cs_tx_types.specs.declared.action.Action.TheVariants.{Prepare, Decide}
use Rattle.cs_tx_types.specs.declared.entry.Entry.{Entry}
use Rattle.cs_tx_types.specs.Session.{action_encoding}
use Rattle.cs_tx_types.specs.Entry.{entry_of}
use Rattle.cs_node_state.specs.declared.pooled.Pooled.{Pooled}
use Rattle.cs_node_state.specs.Setup.{Setup, digest_of, is_concerned_shard, concerned, is_fit, is_session_approved}
use Rattle.cs_node_state.specs.Evidence.{is_decided, decided_vote}
use Rattle.cs_node_state.specs.Pool.{Pool, found}

-- it is pooled, and its votes decide so
abbrev pub is_decided_in : ℕ → List ℕ → Vote → Option Pooled → Bool
is_decided_in f shards vote None = false
is_decided_in f shards vote (Some p) = is_decided f shards vote p.ballots

-- a session that may be voted on; a decision that the votes taken on a pooled session support
abbrev pub admits_action : Setup → ℕ → Pool → Action → Bool
admits_action setup shard pool (Prepare x) = is_fit setup shard x && is_session_approved setup x
admits_action setup shard pool (Decide vote x) =
    is_concerned_shard setup x shard && is_decided_in setup.f (concerned setup x) vote (found (digest_of setup x) pool)

-- each action of the entry, all as the pool is before it
abbrev pub admits : Setup → ℕ → Pool → Entry → Bool
admits setup shard pool entry = list_all (admits_action setup shard pool) entry.actions

-- ---- what is due

-- what is due for a pooled session: nothing while it waits
abbrev pub due_vote : ℕ → List ℕ → Pooled → Option Vote
due_vote f shards p = if p.locked then decided_vote f shards p.ballots else None

abbrev pub with_decision : Session → Option Vote → List Action → List Action
with_decision x (Some vote) later = Decide vote x ∷ later
with_decision x None later = later

-- the decisions that are due for the locked sessions, in the order of the pool
abbrev pub decisions : Setup → Pool → List Action
decisions setup [] = []
decisions setup (e ∷ pool) =
    with_decision e.1.session (due_vote setup.f (concerned setup e.1.session) e.1) (decisions setup pool)

-- the votes on the sessions that wait, in the order of the pool
abbrev pub questions : Pool → List Action
questions [] = []
questions (e ∷ pool) = if e.1.locked then questions pool else Prepare e.1.session ∷ questions pool

-- decisions come first
abbrev pub all_due : Setup → Pool → List Action
all_due setup pool = decisions setup pool ++ questions pool

-- the action is one of so many at most, and its encoding has so many bytes at most
abbrev pub has_room_for : ℕ → ℕ → Action → Bool
has_room_for most room action = nat_lt 0 most && nat_le (length (action_encoding action)) room

-- the longest beginning of so many actions at most, whose encodings have so many bytes at most
abbrev pub beginning : ℕ → ℕ → List Action → List Action
beginning most room [] = []
beginning most room (action ∷ more) =
    if has_room_for most room action
    then action ∷ beginning (most - 1) (room - length (action_encoding action)) more
    else []

-- the bytes of a batch without those of its actions: its kind and their number
abbrev pub batch_head : ℕ
batch_head = 2

abbrev pub first_alone : List Action → List Action
first_alone [] = []
first_alone (action ∷ more) = action ∷ []

-- In version 1 the first action alone; in version 2 as many as a batch has room for.
abbrev pub batched : Version → List Action → List Action
batched One actions = first_alone actions
batched Two actions = beginning MOST_ACTIONS (MOST_BATCH - batch_head) actions

-- an entry has an action
abbrev pub some_entry : List Action → Option Entry
some_entry [] = None
some_entry (action ∷ more) = Some (entry_of (action ∷ more))

abbrev pub due : Setup → Pool → Option Entry
due setup pool = some_entry (batched setup.version (all_due setup pool))
