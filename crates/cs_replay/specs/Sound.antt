-- What is true of every world in which few enough nodes lie, and so of every schedule that can be played, whatever its
-- judge approves of.
use Rattle.std.specs.Prelude.{◌≡◌, ◌≤◌, Bool, List, ◌++◌}
use Rattle.cs_base.specs.declared.config.Config.{Config}
use Rattle.cs_tx_value.specs.declared.object.Object.{Object}
use Rattle.cs_tx_types.specs.declared.transaction.Tx.{Tx}
use Rattle.cs_order_rules.specs.declared.message.OrderMessage.{OrderMessage}
use Rattle.cs_order_rules.specs.SlotMachine.{slot_machine}
use Rattle.cs_sched.specs.declared.schedule.Schedule.{Schedule}
use Rattle.cs_node_rules.specs.Net.{Net}
use Rattle.cs_node_rules.specs.Site.{Site}
use Rattle.cs_node_rules.specs.World.{Happening}
use Rattle.cs_node_rules.specs.Ready.{AllQuiet}
use Rattle.cs_node_rules.specs.Collisions.{NoCollision}
use Rattle.cs_node_wire.specs.SlotCarried.{slot_carrier}
use Rattle.cs_world_law.specs.Worlds.{IsWorld, IsNet, deployed_site, IsSerial, SpendsOnce, DecidesOnce, ExecutesGiven, ExecutesKnown, ExecutesFit, TellsAccepted, HoldsFree, NodesHoldFree, KeepsTables, AllUpToDate, AllVoteFree, AllAcceptLocked}
use Rattle.cs_world_law.specs.Steps.{StepsAllowed, StepsComputed, FollowsShard, VotesOnce, TellsCommitted, TellsBefore}
use Rattle.cs_world_law.specs.Clients.{TellsClientsAccepted, TellsClientsAborted}
use Rattle.cs_world_law.specs.Shown.{KeepsExecuted, ShowsExecuted, HeadsAgree}
use Rattle.cs_world_law.specs.Agreement.{AllAgree}
use Rattle.cs_world_law.specs.Orders.{ExecutesChosen, SaysHanded}
use Rattle.cs_replay.specs.Site.{site_of_schedule}
use Rattle.cs_replay.specs.Played.{world_of}

-- The first executions are allowed steps with the computed results, the log of each honest node is the older part of
-- its shard's, and a shard votes once on a session. The history is serial, and no object is consumed twice. No two
-- honest nodes decide a session differently. The accepted transactions are in the history, from before the decision is
-- executed, and so are those that all concerned shards have voted for. A client is told that a session was accepted
-- only where its transaction is in the history, and that it was aborted only where no honest node accepts it. A free
-- session is voted commit, and a locked one is accepted. What is free in the table to which the log of a shard comes is
-- in the ledger after the history, and so is what is free at a node that has executed all of its shard. Heads of one
-- number that honest nodes of a shard noted are one head.
pub record IsOneHistory (site : Site OrderMessage) (world : List (Happening OrderMessage)) : Type 0 where
  pub allowed : StepsAllowed site world
  pub computed : StepsComputed site world
  pub logs : FollowsShard site world
  pub one_vote : VotesOnce site world
  pub serial : IsSerial site world
  pub spent_once : SpendsOnce site world
  pub one_decision : DecidesOnce site world
  pub accepted : TellsAccepted site world
  pub before : TellsBefore site world
  pub committed : TellsCommitted site world
  pub told_accepted : TellsClientsAccepted site world
  pub told_aborted : TellsClientsAborted site world
  pub votes_free : AllVoteFree site world
  pub accepts_locked : AllAcceptLocked site world
  pub objects : HoldsFree site world
  pub node_objects : NodesHoldFree site world
  pub same_heads : HeadsAgree site world

-- What needs no premise on hashes where no node may lie: the first executions are allowed steps with the computed
-- results, and the log of each honest node is all of its shard's. A free session is voted commit.
pub record IsTrusted (site : Site OrderMessage) (world : List (Happening OrderMessage)) : Type 0 where
  pub allowed : StepsAllowed site world
  pub computed : StepsComputed site world
  pub logs : FollowsShard site world
  pub up_to_date : AllUpToDate site world
  pub votes_free : AllVoteFree site world

-- What is so once an event is over. Each executed session stood in an input, each executed entry stood in one or was
-- proposed, and has an encoding. An honest node has executed what its order chose, has sent what that handed out, and no
-- rule applies: so what its order may echo, confirm and choose is echoed, confirmed and chosen. Its table and its
-- checkpoints are made of what it executed, and what is shown under a head that it noted is that. The rest is said where
-- no node may lie, or where no two of the strings that were hashed by then have one hash.
pub record IsSoundWorld (site : Site OrderMessage) (genesis : List Object) (world : List (Happening OrderMessage))
    : Type 0 where
  pub executed : ExecutesGiven site world
  pub executed_known : ExecutesKnown site world
  pub executed_fit : ExecutesFit site world
  pub executes_chosen : ExecutesChosen site world
  pub says_handed : SaysHanded site world
  pub quiet : AllQuiet site world
  pub agreement : AllAgree site world
  pub tables : KeepsTables site world
  pub checkpoints : KeepsExecuted site world
  pub shown : ShowsExecuted site world
  pub trusted : site.setup.f ≡ 0 → IsTrusted site world
  pub one_history : NoCollision site genesis world → IsOneHistory site world

-- it is true of the world after each event
abbrev pub AfterEach : (List (Happening OrderMessage) → Type 0) → List (Happening OrderMessage) → Type 0
AfterEach Says world = (later earlier : List (Happening OrderMessage)) → world ≡ later ++ earlier → Says earlier

-- So it is of every world of at most 16 shards, over any net, in which few enough nodes lie and nothing is forged.
abbrev pub WorldsAreSound : Type 0
WorldsAreSound =
    (config : Config) (net : Net) (genesis : List Object) (approves : Tx → Bool) (world : List (Happening OrderMessage))
    → config.shards ≤ 16 → config.f ≤ 5 → IsNet config net →
    let site = deployed_site config net genesis approves slot_machine slot_carrier in
    IsWorld site world → AfterEach (IsSoundWorld site genesis) world

-- So it is of the world whose lines are printed, traced or not.
abbrev pub IsSound : (Tx → Bool) → Schedule → Type 0
IsSound approves schedule = (traced : Bool) →
    AfterEach (IsSoundWorld (site_of_schedule approves schedule) schedule.genesis) (world_of approves traced schedule)
