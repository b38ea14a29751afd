-- What the variables of a replay stand for.
use Rattle.std.specs.Prelude.{◌≡◌, ◌↔◌, ℕ, ◌<◌, ◌≤◌, Bool, true, false, List, length, slice_get, Option, Some}
use Rattle.std.specs.List.{All}
use Rattle.std.specs.Io.KnownBytes.{Appends}
use Rattle.cs_base.specs.declared.limits.TheConstants.{MOST_BODY}
use Rattle.cs_base.specs.declared.node_id.NodeId.{NodeId}
use Rattle.cs_tx_types.specs.declared.transaction.Tx.{Tx}
use Rattle.cs_order.specs.Deeds.{Member, Machine}
use Rattle.cs_ledger.specs.Ledger.{Bytes}
use Rattle.cs_base.specs.NodeId.{same_name}
use Rattle.cs_sched.specs.declared.schedule.Event.{Event}
use Rattle.cs_sched.specs.declared.schedule.Event.TheVariants.{Say, Inject, Deliver, Tick, Drain}
use Rattle.cs_node_state.specs.Setup.{Setup}
use Rattle.cs_node_rules.specs.Net.{Net, net_of}
use Rattle.cs_node_rules.specs.Site.{Input, Carriers, Site, View, signs_of}
use Rattle.cs_node_rules.specs.Trail.{event_marks}
use Rattle.cs_node_rules.specs.World.{Happening, view_of, happens, firsts_of}
use Rattle.cs_replay_rules.specs.Aborts.{aborted}
use Rattle.cs_replay_rules.specs.Play.{Played, size_of, most_sent}
use Rattle.cs_node_rules.specs.Deployment.{site_of}
use Rattle.cs_node.specs.declared.node_core.Core.{Core}
use Rattle.cs_node.specs.declared.outs.Made.{Made}
use Rattle.cs_node.specs.Notes.{notes_of, outs_of}
use Rattle.cs_node.specs.Cores.{CoreStandsFor}
use Rattle.cs_replay_play.specs.declared.play.Replay.{Replay}
use Rattle.cs_replay_play.specs.Kept.{KeepsHistory}
use Rattle.cs_replay_play.specs.Logged.{AllLogged}
use Rattle.cs_replay_play.specs.Voicing.{Voicing}

-- what stays the same in a replay
pub record Setting : Type 0 where
  pub setup : Setup
  pub net : Net
  pub names : ℕ → NodeId  -- of the honest nodes
  pub count : ℕ  -- so many they are
  pub traced : Bool
  pub before : Option Bytes  -- what had been written before the first event

abbrev pub site_in : {M : Type 0} → Machine M → Carriers M → Setting → Site M
site_in {M} rules carrier s = site_of s.setup s.net rules carrier

-- ---- nodes

-- the cores stand for these views
abbrev pub EachStands : {O J M : Type 0} → (O → Member M → Type 0) → (J → Tx → Bool)
    → Site M → List (Core O J M) → (ℕ → View M) → Type 0
EachStands {O} {J} {M} stands approves site cores views =
    (i : ℕ) (core : Core O J M) → slice_get cores i ≡ Some core → CoreStandsFor stands approves site core (views i)

-- the cores are those of different nodes, and stand for their views after these events
pub record AllStand {O J M : Type 0} (stands : O → Member M → Type 0) (approves : J → Tx → Bool)
    (site : Site M) (names : ℕ → NodeId) (cores : List (Core O J M)) (world : List (Happening M)) : Type 0 where
  pub each : EachStands stands approves site cores (λ i. view_of site world (names i))
  pub apart : (i j : ℕ) → i < length cores → j < length cores → names i ≡ names j → i ≡ j

-- one of so many nodes has this name
abbrev pub HasNode : (ℕ → NodeId) → ℕ → NodeId → Type 0
HasNode names count name = (i : ℕ) × (i < count) × (names i ≡ name)

-- an input at a node was taken: what it told and sent, and the cores after it
pub record Delivered {O J M : Type 0} (stands : O → Member M → Type 0) (approves : J → Tx → Bool)
    (site : Site M) (names : ℕ → NodeId) (cores : List (Core O J M)) (world : List (Happening M))
    (to : NodeId) (input : Input) (made : Made) : Type 0 where
  pub notes : made.notes ≡ notes_of (signs_of (event_marks site (view_of site world to) input))
  pub outs : made.outs ≡ outs_of site.net to (signs_of (event_marks site (view_of site world to) input))
  pub all : AllStand stands approves site names cores (happens site to input world)

-- ---- a replay

-- the honest nodes of the net are those with names, and the datagrams of others are made of this master key, in version 1
pub record Rests (s : Setting) (count : ℕ) (voicing : Voicing) : Type 0 where
  pub honest : (name : NodeId) → (s.net.is_honest name ≡ true) ↔ HasNode s.names s.count name
  pub shards : (i : ℕ) → i < s.count → (s.names i).shard < count
  pub liars : List NodeId
  pub speaks : s.net ≡ net_of voicing.config voicing.master liars
  pub first : voicing.config.version ≡ 1

-- it stands for what was played
pub record Stands {O J M : Type 0} (stands : O → Member M → Type 0) (approves : J → Tx → Bool)
    (rules : Machine M) (carrier : Carriers M) (s : Setting) (r : Replay O J M) (p : Played M) : Type 0 where
  pub rests : Rests s r.history.config.shards r.voices
  pub traced : r.traced ≡ s.traced
  pub count : length r.cores.items ≡ s.count
  pub all : AllStand stands approves (site_in rules carrier s) s.names r.cores.items p.world
  pub logs : AllLogged (site_in rules carrier s) s.names s.count r.logs.items p.world
  pub kept : KeepsHistory s.setup (firsts_of p.world) r.history
  pub aborted : r.history.aborted ≡ aborted s.setup p.world
  pub parcels : r.post ≡ p.parcels
  pub within : size_of p.parcels ≤ most_sent
  pub events : r.events ≡ length p.world

-- and the lines of its events were written
pub record StandsPrinted {O J M : Type 0} (stands : O → Member M → Type 0) (approves : J → Tx → Bool)
    (rules : Machine M) (carrier : Carriers M) (s : Setting) (r : Replay O J M) (written : Option Bytes) (p : Played M)
    : Type 0 where
  pub holds : Stands stands approves rules carrier s r p
  pub printed : Appends s.before written p.text

-- ---- events

-- what is said is short enough for a datagram, and so is what each of these events says
abbrev pub IsShortEvent : Event → Type 0
IsShortEvent (Say from to kind body) = length body ≤ MOST_BODY
IsShortEvent (Inject to bytes) = Unit {0}
IsShortEvent (Deliver number) = Unit {0}
IsShortEvent (Tick node) = Unit {0}
IsShortEvent (Drain times) = Unit {0}

abbrev pub AllShort : List (ℕ × Event) → Type 0
AllShort events = All (λ numbered. IsShortEvent numbered.1) events

-- an honest node is given something, by another
abbrev pub IsToAnother : Setting → Event → Type 0
IsToAnother s (Say from to kind body) = HasNode s.names s.count to × (same_name to from ≡ false)
IsToAnother s (Inject to bytes) = HasNode s.names s.count to
IsToAnother s (Deliver number) = Unit {0}
IsToAnother s (Tick node) = HasNode s.names s.count node
IsToAnother s (Drain times) = Unit {0}

abbrev pub AllToOthers : Setting → List (ℕ × Event) → Type 0
AllToOthers s events = All (λ numbered. IsToAnother s numbered.1) events
