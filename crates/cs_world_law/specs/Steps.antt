-- What is said of the first executions of a world: the steps of the shards' logs, and the history as these come.
use Rattle.std.specs.Prelude.{◌≡◌, ◌⊎◌, ℕ, suc, ◌==◌, true, if◌then◌else◌, List, [], ◌∷◌, ◌++◌, Option, Some, None, slice_get}
use Rattle.cs_base.specs.Lists.{IsIn}
use Rattle.cs_base.specs.declared.node_id.NodeId.{NodeId}
use Rattle.cs_tx_types.specs.declared.session.Session.{Session}
use Rattle.cs_tx_types.specs.declared.action.Action.{Action}
use Rattle.cs_tx_types.specs.declared.entry.Entry.{Entry}
use Rattle.cs_tx_types.specs.Entry.{EntryFits}
use Rattle.cs_ledger.specs.Ledger.{Bytes}
use Rattle.cs_ledger.specs.Table.{Vote, Effect, Accepted, table_of, exec}
use Rattle.cs_ledger.specs.ShardWorld.{log, AllAllowed}
use Rattle.cs_node_state.specs.Setup.{Setup, digest_of, is_concerned_shard, entry_of}
use Rattle.cs_tx_types.specs.Session.{session_in}
use Rattle.cs_node_rules.specs.Signs.{Sign, Dropped, Took, Entered, Viewed, Did, Headed, Kept, Sent}
use Rattle.cs_node_rules.specs.Site.{Site}
use Rattle.cs_node_rules.specs.World.{Happening, Execution, firsts_of, steps_of, newest_of, is_recorded, all_recorded, told_transactions, aborts_in}
use Rattle.cs_node_rules.specs.Collisions.{known_sessions}
use Rattle.cs_world_law.specs.Worlds.{is_honest, signs_at}

-- ---- the steps of the shards' logs

-- Each first execution is a step that may be taken after those before it: a Prepare of a session that is well formed,
-- concerns the shard and is approved; a Decide commit on which all concerned shards have voted commit; or a Decide
-- abort on which one of them has voted abort.
abbrev pub StepsAllowed : {M : Type 0} → Site M → List (Happening M) → Type 0
StepsAllowed {M} site world = AllAllowed site.setup.rules (steps_of site.setup (firsts_of world))

-- what an entry comes to on the table of the shard's log
abbrev pub effect_after : Setup → List Execution → ℕ → Action → Effect
effect_after setup earlier shard entry =
    let table = table_of setup.rules shard (log shard (steps_of setup earlier)) in
    (exec setup.rules shard table (entry_of setup entry)).effect

-- it is in the next place of the same slot, or in the first place of the next slot
abbrev pub Follows : ℕ → ℕ → Option Execution → Type 0
Follows slot place None = (slot ≡ 0) × (place ≡ 0)
Follows slot place (Some e) =
    ((slot ≡ e.slot) × (place ≡ suc e.place)) ⊎ ((slot ≡ suc e.slot) × (place ≡ 0))

-- it is the next action of its shard, in its place of an entry that has an encoding, and its result is what it comes to
-- there
pub record IsComputed (setup : Setup) (earlier : List Execution) (e : Execution) : Type 0 where
  pub next : Follows e.slot e.place (newest_of e.shard earlier)
  pub whole : Entry
  pub fits : EntryFits setup.version whole
  pub within : slice_get whole.actions e.place ≡ Some e.entry
  pub effect : e.effect ≡ effect_after setup earlier e.shard e.entry

abbrev pub AllComputed : Setup → List Execution → Type 0
AllComputed setup [] = Unit {0}
AllComputed setup (e ∷ earlier) = IsComputed setup earlier e × AllComputed setup earlier

-- The first executions of a shard are of the actions of its slots in order, each with the computed result.
abbrev pub StepsComputed : {M : Type 0} → Site M → List (Happening M) → Type 0
StepsComputed {M} site world = AllComputed site.setup (firsts_of world)

-- the executions of one shard among these
abbrev pub executions_of : ℕ → List Execution → List Execution
executions_of shard [] = []
executions_of shard (e ∷ earlier) =
    if e.shard == shard then e ∷ executions_of shard earlier else executions_of shard earlier

-- an action that was executed, in its place of a slot
pub record Run : Type 0 where
  pub slot : ℕ
  pub place : ℕ
  pub action : Action

-- what a node of the shard executed
abbrev pub executions_in : ℕ → List Sign → List Execution
executions_in shard [] = []
executions_in shard (Did slot place entry effect ∷ past) =
    record { shard = shard; slot = slot; place = place; entry = entry; effect = effect } ∷ executions_in shard past
executions_in shard (Dropped cause ∷ past) = executions_in shard past
executions_in shard (Took sender vote x ∷ past) = executions_in shard past
executions_in shard (Entered x ∷ past) = executions_in shard past
executions_in shard (Viewed slot view ∷ past) = executions_in shard past
executions_in shard (Headed number head ∷ past) = executions_in shard past
executions_in shard (Kept index checkpoint ∷ past) = executions_in shard past
executions_in shard (Sent to message ∷ past) = executions_in shard past

-- the older part of a list that has the newest first
pub record IsOlderPart {A : Type 0} (part whole : List A) : Type 0 where
  pub newer : List A
  pub is : whole ≡ newer ++ part

-- The log of an honest node, with its results, is the older part of its shard's log.
abbrev pub FollowsShard : {M : Type 0} → Site M → List (Happening M) → Type 0
FollowsShard {M} site world =
    (i : NodeId) → is_honest site i ≡ true →
    IsOlderPart (executions_in i.shard (signs_at i world)) (executions_of i.shard (firsts_of world))

-- All Prepare of a session in the log of a shard that were voted on were given one vote.
abbrev pub VotesOnce : {M : Type 0} → Site M → List (Happening M) → Type 0
VotesOnce {M} site world =
    (shard : ℕ) (d : Bytes) (v w : Vote) →
    is_recorded site.setup (firsts_of world) d v shard ≡ true →
    is_recorded site.setup (firsts_of world) d w shard ≡ true → v ≡ w

-- ---- the history, as the first executions come

-- Once all concerned shards have voted commit on a session, its transaction is in the history, and no honest node
-- decides abort on it, then or later.
abbrev pub TellsCommitted : {M : Type 0} → Site M → List (Happening M) → Type 0
TellsCommitted {M} site world =
    (later earlier : List Execution) → firsts_of world ≡ later ++ earlier →
    (x : Session) → IsIn x (known_sessions site world) → (shard : ℕ) → is_concerned_shard site.setup x shard ≡ true →
    all_recorded site.setup earlier x ≡ true →
    IsIn (site.setup.session_of x).transaction (told_transactions site.setup earlier)
    × ((i : NodeId) → is_honest site i ≡ true →
    aborts_in site.setup (digest_of site.setup x) (signs_at i world) ≡ true → ⊥)

-- The first execution that accepts a session comes when its transaction is in the history.
abbrev pub TellsBefore : {M : Type 0} → Site M → List (Happening M) → Type 0
TellsBefore {M} site world =
    (later : List Execution) (e : Execution) (earlier : List Execution) → firsts_of world ≡ later ++ e ∷ earlier →
    e.effect ≡ Accepted → IsIn (site.setup.session_of (session_in e.entry)).transaction (told_transactions site.setup earlier)
