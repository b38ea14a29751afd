-- A world: events at nodes, each with the marks that it made, the newest first. What was executed, the history, and what
-- nodes decided.
use Rattle.std.specs.Prelude.{◌≡◌, ℕ, suc, ◌==◌, nat_lt, Bool, true, false, not, ◌&&◌, ◌||◌, if◌then◌else◌, List, [], ◌∷◌, ◌++◌, Option, Some, None, Ok, Err, bytes_eq}
use Rattle.std.specs.List.{list_all, list_any}
use Rattle.cs_base.specs.declared.node_id.NodeId.{NodeId}
use Rattle.cs_wire.specs.Opened.{Opened}
use Rattle.cs_tx_types.specs.declared.session.Session.{Session}
use Rattle.cs_tx_types.specs.declared.action.Action.{Action}
use Rattle.cs_tx_types.specs.declared.action.Action.TheVariants.{Prepare, Decide}
use Rattle.cs_ledger.specs.Ledger.{Bytes, Transaction}
use Rattle.cs_ledger.specs.Table.{Vote, Commit, Abort, Effect, Voted, Accepted, Aborted}
use Rattle.cs_ledger.specs.ShardWorld.{Step, is_vote, is_listed}
use Rattle.cs_node_state.specs.Setup.{Setup, digest_of, concerned, entry_of, prepares}
use Rattle.cs_base.specs.NodeId.{same_name}
use Rattle.cs_node_rules.specs.Net.{Net}
use Rattle.cs_node_rules.specs.Lines.{Parcel, parcels_of}
use Rattle.cs_node_rules.specs.Signs.{Sign, Dropped, Took, Entered, Viewed, Did, Headed, Kept, Sent}
use Rattle.cs_node_rules.specs.Site.{Input, Datagram, Tick, Mark, Site, View, start_view, view_after, signs_of}
use Rattle.cs_node_rules.specs.Trail.{event_marks}

-- an event: an input at a node, and the marks that it made
pub record Happening (M : Type 0) : Type 0 where
  pub node : NodeId
  pub input : Input
  pub marks : List (Mark M)

-- all marks of a node
abbrev pub trail_of : {M : Type 0} → NodeId → List (Happening M) → List (Mark M)
trail_of {M} i [] = []
trail_of {M} i (h ∷ past) = if same_name h.node i then h.marks ++ trail_of i past else trail_of i past

abbrev pub view_of : {M : Type 0} → Site M → List (Happening M) → NodeId → View M
view_of {M} site past i = view_after site (trail_of i past) (start_view site i)

-- one more event
abbrev pub happens : {M : Type 0} → Site M → NodeId → Input → List (Happening M) → List (Happening M)
happens {M} site i input past =
    record { node = i; input = input; marks = event_marks site (view_of site past i) input } ∷ past

-- each event made the marks that the rules of its node give
abbrev pub IsLife : {M : Type 0} → Site M → List (Happening M) → Type 0
IsLife {M} site [] = Unit {0}
IsLife {M} site (h ∷ past) = (h.marks ≡ event_marks site (view_of site past h.node) h.input) × IsLife site past

-- ---- what was sent

-- the datagrams of all events, the oldest first
abbrev pub sent_in : {M : Type 0} → Net → List (Happening M) → List Parcel
sent_in {M} net [] = []
sent_in {M} net (h ∷ past) = sent_in net past ++ parcels_of net h.node (signs_of h.marks)

-- exactly this datagram is among those sent
abbrev pub was_sent : NodeId → NodeId → Bytes → List Parcel → Bool
was_sent from to bytes parcels =
    list_any (λ parcel. same_name parcel.from from && (same_name parcel.to to && bytes_eq parcel.bytes bytes)) parcels

abbrev pub is_backed : Net → NodeId → Bytes → List Parcel → Opened → Bool
is_backed net to bytes parcels (Ok said) = not (net.is_honest said.0) || was_sent said.0 to bytes parcels
is_backed net to bytes parcels (Err error) = true

-- what opens as from an honest node was sent by it
abbrev pub is_genuine : Net → NodeId → Bytes → List Parcel → Bool
is_genuine net to bytes parcels = is_backed net to bytes parcels (net.opened to bytes)

abbrev pub is_genuine_input : Net → NodeId → Input → List Parcel → Bool
is_genuine_input net to (Datagram bytes) parcels = is_genuine net to bytes parcels
is_genuine_input net to Tick parcels = true

-- each datagram that was given was genuine
abbrev pub NoForgery : {M : Type 0} → Net → List (Happening M) → Type 0
NoForgery {M} net [] = Unit {0}
NoForgery {M} net (h ∷ past) = (is_genuine_input net h.node h.input (sent_in net past) ≡ true) × NoForgery net past

-- each event was at an honest node
abbrev pub AreHonest : {M : Type 0} → Net → List (Happening M) → Type 0
AreHonest {M} net [] = Unit {0}
AreHonest {M} net (h ∷ past) = (net.is_honest h.node ≡ true) × AreHonest net past

-- ---- what was executed

-- an execution in a place of a slot of a shard, and what it came to
pub record Execution : Type 0 where
  pub shard : ℕ
  pub slot : ℕ
  pub place : ℕ
  pub entry : Action
  pub effect : Effect

-- the executions as steps of the shards together
abbrev pub steps_of : Setup → List Execution → List Step
steps_of setup [] = []
steps_of setup (e ∷ earlier) = record { shard = e.shard; entry = entry_of setup e.entry } ∷ steps_of setup earlier

-- so many actions of the shard have been executed
abbrev pub count_executed : ℕ → List Execution → ℕ
count_executed shard [] = 0
count_executed shard (e ∷ earlier) =
    if e.shard == shard then suc (count_executed shard earlier) else count_executed shard earlier

-- the newest execution of a shard
abbrev pub newest_of : ℕ → List Execution → Option Execution
newest_of shard [] = None
newest_of shard (e ∷ earlier) = if e.shard == shard then Some e else newest_of shard earlier

-- a place of a slot comes after that of an execution, where there is one
abbrev pub is_after : ℕ → ℕ → Option Execution → Bool
is_after slot place None = true
is_after slot place (Some e) = nat_lt e.slot slot || ((e.slot == slot) && nat_lt e.place place)

-- the first execution in each place of each slot by a node of its shard
abbrev pub with_first_execution : ℕ → Sign → List Execution → List Execution
with_first_execution shard (Did slot place entry effect) firsts =
    if is_after slot place (newest_of shard firsts)
    then record { shard = shard; slot = slot; place = place; entry = entry; effect = effect } ∷ firsts
    else firsts
with_first_execution shard (Dropped cause) firsts = firsts
with_first_execution shard (Took sender vote x) firsts = firsts
with_first_execution shard (Entered x) firsts = firsts
with_first_execution shard (Viewed slot view) firsts = firsts
with_first_execution shard (Headed number head) firsts = firsts
with_first_execution shard (Kept index checkpoint) firsts = firsts
with_first_execution shard (Sent to message) firsts = firsts

abbrev pub firsts_after : ℕ → List Execution → List Sign → List Execution
firsts_after shard firsts [] = firsts
firsts_after shard firsts (sign ∷ past) = with_first_execution shard sign (firsts_after shard firsts past)

abbrev pub firsts_of : {M : Type 0} → List (Happening M) → List Execution
firsts_of {M} [] = []
firsts_of {M} (h ∷ past) = firsts_after h.node.shard (firsts_of past) (signs_of h.marks)

-- the vote of a shard on a session, as its first execution recorded it
abbrev pub is_recorded : Setup → List Execution → Bytes → Vote → ℕ → Bool
is_recorded setup [] d vote shard = false
is_recorded setup (e ∷ earlier) d vote shard =
    ((e.shard == shard) && (prepares setup d e.entry && is_vote vote e.effect)) || is_recorded setup earlier d vote shard

-- every concerned shard has voted commit
abbrev pub all_recorded : Setup → List Execution → Session → Bool
all_recorded setup firsts x = list_all (is_recorded setup firsts (digest_of setup x) Commit) (concerned setup x)

-- a vote, and not what is void
abbrev pub is_voted : Effect → Bool
is_voted (Voted vote) = true
is_voted effect = false

abbrev pub told_after : Setup → List Execution → Action → Effect → List Transaction → List Transaction
told_after setup firsts (Prepare x) effect earlier =
    if is_voted effect && (all_recorded setup firsts x && not (is_listed (setup.session_of x).transaction earlier))
    then earlier ++ (setup.session_of x).transaction ∷ []
    else earlier
told_after setup firsts (Decide vote x) effect earlier = earlier

-- the transactions, in the order in which their last commit vote came, oldest first
abbrev pub told_transactions : Setup → List Execution → List Transaction
told_transactions setup [] = []
told_transactions setup (e ∷ earlier) = told_after setup (e ∷ earlier) e.entry e.effect (told_transactions setup earlier)

-- the history, by the effects that nodes recorded
abbrev pub recorded_history : {M : Type 0} → Site M → List (Happening M) → List Transaction
recorded_history {M} site world = told_transactions site.setup (firsts_of world)

-- an execution decides accept on a session of that digest, or abort
abbrev pub accepts_by : Setup → Bytes → Action → Effect → Bool
accepts_by setup d (Decide vote x) Accepted = bytes_eq d (digest_of setup x)
accepts_by setup d entry effect = false

abbrev pub aborts_by : Setup → Bytes → Action → Effect → Bool
aborts_by setup d (Prepare x) (Voted Abort) = bytes_eq d (digest_of setup x)
aborts_by setup d (Decide vote x) Aborted = bytes_eq d (digest_of setup x)
aborts_by setup d entry effect = false

-- what a node decided
abbrev pub accepts_in : Setup → Bytes → List Sign → Bool
accepts_in setup d [] = false
accepts_in setup d (Did slot place entry effect ∷ past) = accepts_by setup d entry effect || accepts_in setup d past
accepts_in setup d (sign ∷ past) = accepts_in setup d past

abbrev pub aborts_in : Setup → Bytes → List Sign → Bool
aborts_in setup d [] = false
aborts_in setup d (Did slot place entry effect ∷ past) = aborts_by setup d entry effect || aborts_in setup d past
aborts_in setup d (sign ∷ past) = aborts_in setup d past
