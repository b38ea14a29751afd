-- The worlds that schedules play: what honest nodes are given in them.
use Rattle.std.specs.Prelude.{◌≡◌, ℕ, ◌<◌, ◌≤◌, Bool, true, false, List, length}
use Rattle.std.specs.List.{All}
use Rattle.cs_base.specs.Fields.{IsBytes}
use Rattle.cs_base.specs.declared.config.Config.{Config}
use Rattle.cs_base.specs.declared.limits.TheConstants.{MOST_BODY}
use Rattle.cs_base.specs.declared.node_id.NodeId.{NodeId}
use Rattle.cs_base.specs.NodeId.{is_named}
use Rattle.cs_tx_value.specs.declared.object.Object.{Object}
use Rattle.cs_tx_types.specs.declared.session.Session.{Session}
use Rattle.cs_ledger.specs.Ledger.{Bytes}
use Rattle.cs_ledger.specs.Session as Seen
use Rattle.cs_order.specs.Deeds.{Machine}
use Rattle.cs_sched.specs.declared.schedule.Event.{Event}
use Rattle.cs_sched.specs.declared.schedule.Event.TheVariants as event
use Rattle.cs_node_rules.specs.Net.{Net, net_of}
use Rattle.cs_replay_rules.specs.Play.{unplayed, played_by, play_all}
use Rattle.cs_node_rules.specs.Site.{Carriers, Site}
use Rattle.cs_node_rules.specs.World.{Happening, IsLife, AreHonest, NoForgery}
use Rattle.cs_node_rules.specs.Carrying.{AllCarry}
use Rattle.cs_node_rules.specs.Deployment.{site_of}
use Rattle.cs_node_state.specs.Deployed.{setup_of}
use Rattle.cs_node_law.specs.Given.{AreBytes}

-- one that is no honest node says something to an honest node
pub record IsSayable (config : Config) (net : Net) (from to : NodeId) (kind : ℕ) (body : Bytes) : Type 0 where
  pub speaker : is_named config from ≡ true
  pub lies : net.is_honest from ≡ false
  pub listener : net.is_honest to ≡ true
  pub kind_fits : kind < 256
  pub short : length body ≤ MOST_BODY
  pub is_bytes : IsBytes body

-- what the event gives is made of bytes, and is for an honest node
abbrev pub IsGivable : Config → Net → Event → Type 0
IsGivable config net (event.Say from to kind body) = IsSayable config net from to kind body
IsGivable config net (event.Inject to bytes) = (net.is_honest to ≡ true) × IsBytes bytes
IsGivable config net (event.Deliver number) = Unit {0}
IsGivable config net (event.Tick node) = net.is_honest node ≡ true
IsGivable config net (event.Drain times) = Unit {0}

-- Honest nodes keep the rules, and are given bytes of which none is forged.
pub record IsPlayed {M : Type 0} (site : Site M) (world : List (Happening M)) : Type 0 where
  pub honest : AreHonest site.net world
  pub life : IsLife site world
  pub bytes : AreBytes world
  pub genuine : NoForgery site.net world

-- Every schedule, played as far as the limits allow, and up to the first forged datagram, makes such a world.
abbrev pub PlaysWorlds : {M : Type 0} → Machine M → Type 0
PlaysWorlds {M} machine =
    (carrier : Carriers M) → AllCarry machine carrier →
    (config : Config) (master : Bytes) (liars : List NodeId) (genesis : List Object)
    (session_of : Session → Seen.Session) (traced : Bool) (events : List (ℕ × Event)) →
    config.shards ≤ 16 → config.f ≤ 5 →
    All (λ numbered. IsGivable config (net_of config master liars) numbered.1) events →
    let site = site_of (setup_of config genesis session_of) (net_of config master liars) machine carrier in
    IsPlayed site (played_by (play_all site traced events unplayed)).world
