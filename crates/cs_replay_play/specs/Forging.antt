-- Whether bytes are forged, by the name as which they open.
use Rattle.std.specs.Prelude.{Bool, not, ◌||◌, List}
use Rattle.cs_base.specs.declared.node_id.NodeId.{NodeId}
use Rattle.cs_ledger.specs.Ledger.{Bytes}
use Rattle.cs_node_rules.specs.Net.{Net}
use Rattle.cs_node_rules.specs.World.{was_sent}
use Rattle.cs_node_rules.specs.Lines.{Parcel}

-- what opens as from an honest node was sent by it
abbrev pub is_backed_by : Net → NodeId → Bytes → List Parcel → NodeId → Bool
is_backed_by net to bytes parcels from = not (net.is_honest from) || was_sent from to bytes parcels
