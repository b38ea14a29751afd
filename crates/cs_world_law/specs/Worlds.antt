-- Worlds of any number of shards, and what is said of them.
use Rattle.std.specs.Prelude.{◌≡◌, ℕ, ◌<◌, ◌≤◌, Bool, true, not, ◌&&◌, List, [], length, map, Option, Some, None}
use Rattle.std.specs.List.{list_any}
use Rattle.cs_base.specs.Lists.{IsIn}
use Rattle.cs_base.specs.declared.config.Config.{Config}
use Rattle.cs_base.specs.declared.node_id.NodeId.{NodeId}
use Rattle.cs_base.specs.NodeId.{is_node, same_name}
use Rattle.cs_base.specs.Version.{version_of}
use Rattle.cs_tx_value.specs.declared.object.Object.{Object}
use Rattle.cs_tx_types.specs.declared.transaction.Tx.{Tx}
use Rattle.cs_tx_types.specs.declared.session.Session.{Session}
use Rattle.cs_tx_types.specs.declared.action.Action.{Action}
use Rattle.cs_tx_types.specs.declared.entry.Entry.{Entry}
use Rattle.cs_tx_types.specs.Session.{ActionFits, session_in}
use Rattle.cs_tx.specs.Sessions.{ledger_session}
use Rattle.cs_wire.specs.declared.keys.Row.{Row}
use Rattle.cs_wire.specs.declared.keys.Keys.{Keys}
use Rattle.cs_wire.specs.Keys.{row_of}
use Rattle.cs_wire.specs.Opened.{opened}
use Rattle.cs_wire.specs.Datagram.{datagram_with}
use Rattle.cs_order.specs.Deeds.{Machine}
use Rattle.cs_order.specs.Runs.{FewLiars}
use Rattle.cs_ledger.specs.Ledger.{Bytes, Transaction, Serial, IsSpentOnce, genesis_ledger, ledger_of, uses_once}
use Rattle.cs_ledger.specs.Session as Seen
use Rattle.cs_ledger.specs.Table.{table_of, free_object}
use Rattle.cs_ledger.specs.ShardWorld.{log}
use Rattle.cs_node_state.specs.Setup.{digest_of, entry_of}
use Rattle.cs_node_rules.specs.Net.{Net, in_version}
use Rattle.cs_node_rules.specs.Signs.{Sign}
use Rattle.cs_node_rules.specs.Site.{Carriers, Site, signs_of}
use Rattle.cs_node_rules.specs.World.{Happening, trail_of, view_of, IsLife, AreHonest, NoForgery, firsts_of, steps_of, count_executed, recorded_history, accepts_in, aborts_in}
use Rattle.cs_node_rules.specs.Ready.{Executed, VotesFree, AcceptsLocked}
use Rattle.cs_node_rules.specs.Collisions.{known_sessions, known_entries, NoCollision}
use Rattle.cs_node_rules.specs.Carrying.{AllCarry}
use Rattle.cs_node_rules.specs.Deployment.{site_of}
use Rattle.cs_node_state.specs.Deployed.{setup_of}
use Rattle.cs_node_law.specs.Made.{log_in}
use Rattle.cs_node_law.specs.Given.{AreBytes}

abbrev pub is_honest : {M : Type 0} → Site M → NodeId → Bool
is_honest {M} site name = site.net.is_honest name

-- A world: honest nodes keep the rules, and are given bytes of which none is forged. Few enough nodes of a shard lie.
pub record IsWorld {M : Type 0} (site : Site M) (world : List (Happening M)) : Type 0 where
  pub serves : site.machine.serves site.setup.f ≡ true
  pub few : (shard : ℕ) → shard < site.setup.shards →
      FewLiars site.setup.f (λ index. is_honest site (record { shard = shard; index = index }))
  pub honest : AreHonest site.net world
  pub life : IsLife site world
  pub bytes : AreBytes world
  pub genuine : NoForgery site.net world

-- what a node executed, took and sent
abbrev pub signs_at : {M : Type 0} → NodeId → List (Happening M) → List Sign
signs_at {M} i world = signs_of (trail_of i world)

-- ---- what is said of a world

-- The history is one that the plain ledger takes, and every check says yes.
abbrev pub IsSerial : {M : Type 0} → Site M → List (Happening M) → Type 0
IsSerial {M} site world = Serial (genesis_ledger site.setup.rules.genesis) (recorded_history site world)

-- No object is an input of two transactions of the history, nor twice of one.
abbrev pub SpendsOnce : {M : Type 0} → Site M → List (Happening M) → Type 0
SpendsOnce {M} site world =
    IsSpentOnce (recorded_history site world)
    × ((tx : Transaction) → IsIn tx (recorded_history site world) → uses_once tx ≡ true)

-- No two honest nodes, of any shards, decide a session differently.
abbrev pub DecidesOnce : {M : Type 0} → Site M → List (Happening M) → Type 0
DecidesOnce {M} site world =
    (i j : NodeId) (d : Bytes) → is_honest site i ≡ true → is_honest site j ≡ true →
    accepts_in site.setup d (signs_at i world) ≡ true → aborts_in site.setup d (signs_at j world) ≡ true → ⊥

-- Each session that an honest node executed stood in an input.
abbrev pub ExecutesGiven : {M : Type 0} → Site M → List (Happening M) → Type 0
ExecutesGiven {M} site world =
    (i : NodeId) (entry : Action) → Executed (signs_at i world) entry →
    IsIn (session_in entry) (known_sessions site world)

-- Each action that an honest node executed has an encoding.
abbrev pub ExecutesFit : {M : Type 0} → Site M → List (Happening M) → Type 0
ExecutesFit {M} site world = (i : NodeId) (entry : Action) → Executed (signs_at i world) entry → ActionFits entry

-- Each action that an honest node executed is one of an entry that stood in an input, or that an honest node proposed.
abbrev pub ExecutesKnown : {M : Type 0} → Site M → List (Happening M) → Type 0
ExecutesKnown {M} site world =
    (i : NodeId) (action : Action) → Executed (signs_at i world) action →
    (entry : Entry) × (IsIn entry (known_entries site world)) × (IsIn action entry.actions)

-- Each transaction that an honest node accepted is in the history.
abbrev pub TellsAccepted : {M : Type 0} → Site M → List (Happening M) → Type 0
TellsAccepted {M} site world =
    (i : NodeId) (x : Session) → is_honest site i ≡ true → IsIn x (known_sessions site world) →
    accepts_in site.setup (digest_of site.setup x) (signs_at i world) ≡ true →
    IsIn (site.setup.session_of x).transaction (recorded_history site world)

-- The node has executed every slot that its shard has.
abbrev pub IsUpToDate : {M : Type 0} → NodeId → List (Happening M) → Type 0
IsUpToDate {M} i world = length (log_in (signs_at i world)) ≡ count_executed i.shard (firsts_of world)

-- after the history the object is in the ledger, under its name
abbrev pub IsHeld : {M : Type 0} → Site M → List (Happening M) → Bytes → Bytes → Type 0
IsHeld {M} site world name object =
    (ledger_of (genesis_ledger site.setup.rules.genesis) (recorded_history site world)).active name ≡ Some object

-- An object that is free in the table to which the log of a shard comes is in the ledger after the history.
abbrev pub HoldsFree : {M : Type 0} → Site M → List (Happening M) → Type 0
HoldsFree {M} site world =
    (shard : ℕ) (name object : Bytes) →
    let table = table_of site.setup.rules shard (log shard (steps_of site.setup (firsts_of world))) in
    free_object (table.at (Seen.Object name)).state ≡ Some object → IsHeld site world name object

-- So is one that is free in the table of an honest node that has executed all of its shard.
abbrev pub NodesHoldFree : {M : Type 0} → Site M → List (Happening M) → Type 0
NodesHoldFree {M} site world =
    (i : NodeId) → is_honest site i ≡ true → IsUpToDate i world →
    (name object : Bytes) → free_object ((view_of site world i).bench.table.at (Seen.Object name)).state ≡ Some object →
    IsHeld site world name object

-- The table of an honest node is what its own log comes to.
abbrev pub KeepsTables : {M : Type 0} → Site M → List (Happening M) → Type 0
KeepsTables {M} site world =
    (i : NodeId) → is_honest site i ≡ true →
    (view_of site world i).bench.table
    ≡ table_of site.setup.rules i.shard (map (entry_of site.setup) (log_in (signs_at i world)))

-- Each honest node has executed every slot that its shard has.
abbrev pub AllUpToDate : {M : Type 0} → Site M → List (Happening M) → Type 0
AllUpToDate {M} site world = (i : NodeId) → is_honest site i ≡ true → IsUpToDate i world

-- A free session is voted commit at each honest node, and the vote is sent.
abbrev pub AllVoteFree : {M : Type 0} → Site M → List (Happening M) → Type 0
AllVoteFree {M} site world = (i : NodeId) → is_honest site i ≡ true → VotesFree site.setup i (signs_at i world)

-- A locked session is accepted at each honest node.
abbrev pub AllAcceptLocked : {M : Type 0} → Site M → List (Happening M) → Type 0
AllAcceptLocked {M} site world =
    (i : NodeId) → is_honest site i ≡ true → AcceptsLocked site.setup i.shard (signs_at i world)

-- ---- of all worlds

-- A net of a configuration in its version: its honest names are nodes, each name opens under keys of its own, and what
-- one seals for another is sealed under a key between them. Nothing else is asked of the keys.
pub record IsNet (config : Config) (net : Net) : Type 0 where
  pub nodes : (name : NodeId) → net.is_honest name ≡ true → is_node config name ≡ true
  pub keys : NodeId → Keys
  pub version : net.version ≡ version_of config.version
  pub editions : (me : NodeId) → (keys me).version ≡ version_of config.version
  pub opens : (me : NodeId) (bytes : Bytes) → net.opened me bytes ≡ opened (keys me) bytes
  pub key : NodeId → NodeId → Bytes
  pub seals : (from to : NodeId) (kind : ℕ) (body : Bytes) →
      net.datagram from to kind body
      ≡ datagram_with (version_of config.version) (key from to) from to kind body

-- the key under which a name seals for another, by its row for it
abbrev pub key_held : Option Row → Bytes
key_held None = []
key_held (Some row) = row.to

-- the net, in its version, of nodes and clients that each hold keys of their own, of which these nodes lie
abbrev pub net_of_keys : Config → (NodeId → Keys) → List NodeId → Net
net_of_keys config keys liars = record {
  version = version_of config.version;
  datagram = λ from to kind body.
      datagram_with (version_of config.version) (key_held (row_of to (keys from))) from to kind body;
  opened = λ me bytes. opened (in_version (version_of config.version) (keys me)) bytes;
  is_honest = λ name. is_node config name && not (list_any (λ liar. same_name liar name) liars);
}

-- the site of a deployment over a net, whose order keeps these rules, and whose judge approves so
abbrev pub deployed_site : {M : Type 0} → Config → Net → List Object → (Tx → Bool) → Machine M → Carriers M → Site M
deployed_site {M} config net genesis approves machine carriers =
    site_of (setup_of config genesis (ledger_session approves)) net machine carriers

-- It is true of the worlds of every deployment of at most 16 shards under these rules, over any net.
abbrev pub OfWorlds : {M : Type 0} → Machine M → (Site M → List (Happening M) → Type 0) → Type 0
OfWorlds {M} machine Says =
    (carriers : Carriers M) → AllCarry machine carriers →
    (config : Config) (net : Net) (genesis : List Object) (approves : Tx → Bool) (world : List (Happening M)) →
    config.shards ≤ 16 → config.f ≤ 5 → IsNet config net →
    IsWorld (deployed_site config net genesis approves machine carriers) world →
    Says (deployed_site config net genesis approves machine carriers) world

-- It is true of those in which, besides, no two hashed strings collide.
abbrev pub OfWorldsApart : {M : Type 0} → Machine M → (Site M → List (Happening M) → Type 0) → Type 0
OfWorldsApart {M} machine Says =
    (carriers : Carriers M) → AllCarry machine carriers →
    (config : Config) (net : Net) (genesis : List Object) (approves : Tx → Bool) (world : List (Happening M)) →
    config.shards ≤ 16 → config.f ≤ 5 → IsNet config net →
    IsWorld (deployed_site config net genesis approves machine carriers) world →
    NoCollision (deployed_site config net genesis approves machine carriers) genesis world →
    Says (deployed_site config net genesis approves machine carriers) world

-- It is true of those in which no node may lie.
abbrev pub OfWorldsAlone : {M : Type 0} → Machine M → (Site M → List (Happening M) → Type 0) → Type 0
OfWorldsAlone {M} machine Says = OfWorlds machine (λ site world. site.setup.f ≡ 0 → Says site world)
