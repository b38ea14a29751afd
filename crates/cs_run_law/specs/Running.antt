-- Nodes that run: what they are given, and the world that they make of it.
use Rattle.std.specs.Prelude.{◌≡◌, ℕ, ◌<◌, Bool, if◌then◌else◌, List, [], ◌∷◌}
use Rattle.cs_base.specs.declared.config.Config.{Config}
use Rattle.cs_base.specs.declared.node_id.NodeId.{NodeId}
use Rattle.cs_base.specs.NodeId.{same_name}
use Rattle.cs_tx_value.specs.declared.object.Object.{Object}
use Rattle.cs_tx_types.specs.declared.transaction.Tx.{Tx}
use Rattle.cs_wire.specs.declared.keys.Keys.{Keys}
use Rattle.cs_order.specs.Runs.{FewLiars}
use Rattle.cs_order_rules.specs.SlotMachine.{slot_machine}
use Rattle.cs_order_rules.specs.declared.message.OrderMessage.{OrderMessage}
use Rattle.cs_node_rules.specs.Site.{Input, Site}
use Rattle.cs_node_rules.specs.World.{Happening, happens, AreHonest, NoForgery}
use Rattle.cs_node_law.specs.Given.{AreBytes}
use Rattle.cs_node_wire.specs.SlotCarried.{slot_carrier}
use Rattle.cs_world_law.specs.Worlds.{is_honest, net_of_keys, deployed_site}

-- ---- what nodes are given

-- an input, with the node that is given it
abbrev pub Given : Type 0
Given = NodeId × Input

-- what one node is given; both lists have the newest first
abbrev pub inputs_at : NodeId → List Given → List Input
inputs_at i [] = []
inputs_at i (g ∷ past) = if same_name g.0 i then g.1 ∷ inputs_at i past else inputs_at i past

-- the events of nodes that keep the rules on what they are given, in this order
abbrev pub world_given : Site OrderMessage → List Given → List (Happening OrderMessage)
world_given site [] = []
world_given site (g ∷ past) = happens site g.0 g.1 (world_given site past)

-- ---- running nodes

-- the site of nodes and clients that each hold keys of their own, of which these nodes lie
abbrev pub site_of_keys : Config → (NodeId → Keys) → List NodeId → List Object → (Tx → Bool) → Site OrderMessage
site_of_keys config keys liars genesis approves =
    deployed_site config (net_of_keys config keys liars) genesis approves slot_machine slot_carrier

-- Honest nodes are given bytes, of which none is forged, and few enough nodes of each shard lie.
pub record IsTraffic (site : Site OrderMessage) (given : List Given) : Type 0 where
  pub few : (shard : ℕ) → shard < site.setup.shards →
      FewLiars site.setup.f (λ index. is_honest site (record { shard = shard; index = index }))
  pub honest : AreHonest site.net (world_given site given)
  pub bytes : AreBytes (world_given site given)
  pub genuine : NoForgery site.net (world_given site given)
