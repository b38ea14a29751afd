-- Marks, nodes, and the site on which the rules of all nodes rest.
use Rattle.std.specs.Prelude.{List, [], ◌∷◌, Option}
use Rattle.cs_base.specs.declared.node_id.NodeId.{NodeId}
use Rattle.cs_base.specs.declared.version.Version.{Version}
use Rattle.cs_tx_types.specs.declared.entry.Entry.{Entry}
use Rattle.cs_wire_message.specs.declared.message.Message.{Message}
use Rattle.cs_order.specs.declared.proposed.Proposed.{Proposed}
use Rattle.cs_order.specs.Deeds.{Deed, Member, Machine, did}
use Rattle.cs_ledger.specs.Ledger.{Bytes}
use Rattle.cs_node_state.specs.Setup.{Setup}
use Rattle.cs_node_state.specs.Bench.{Bench, start_bench}
use Rattle.cs_node_rules.specs.Net.{Net}
use Rattle.cs_node_rules.specs.Signs.{Sign, bench_step}

-- what a node is given: bytes that came, or that time has passed
pub data Input : Type 0 where
  Datagram : (bytes : Bytes) → Input
  Tick : Input

-- what a node does, one list for each node, the newest first
pub data Mark (M : Type 0) : Type 0 where
  In : (input : Input) → Mark M
  Ordered : (deed : Deed M) → Mark M
  Plain : (sign : Sign) → Mark M

-- how messages of the order go between nodes
pub record Carrier (M : Type 0) : Type 0 where
  pub written : M → Message
  pub read : Message → Option M  -- of a message that is none of the order's, none

-- so in each version
abbrev pub Carriers : Type 0 → Type 0
Carriers M = Version → Carrier M

-- what is the same at all nodes
pub record Site (M : Type 0) : Type 0 where
  pub setup : Setup
  pub net : Net
  pub machine : Machine M
  pub carrier : Carrier M
  pub proposed_of : Entry → Proposed
  pub entry_in : Proposed → Entry  -- of bytes that are no entry a fixed one, which is Void

-- a node: what its marks come to
pub record View (M : Type 0) : Type 0 where
  pub me : NodeId
  pub bench : Bench
  pub member : Member M

-- before the first input
abbrev pub start_view : {M : Type 0} → Site M → NodeId → View M
start_view {M} site me = record {
  me = me;
  bench = start_bench site.setup me.shard;
  member = record { f = site.setup.f; me = me.index; deeds = [] };
}

abbrev pub mark_step : {M : Type 0} → Site M → Mark M → View M → View M
mark_step {M} site (In input) v = v
mark_step {M} site (Ordered deed) v = record { me = v.me; bench = v.bench; member = did deed v.member }
mark_step {M} site (Plain sign) v =
    record { me = v.me; bench = bench_step site.setup v.me.shard sign v.bench; member = v.member }

abbrev pub view_after : {M : Type 0} → Site M → List (Mark M) → View M → View M
view_after {M} site [] v = v
view_after {M} site (mark ∷ past) v = mark_step site mark (view_after site past v)

abbrev pub plain : {M : Type 0} → List Sign → List (Mark M)
plain {M} [] = []
plain {M} (sign ∷ signs) = Plain sign ∷ plain signs

abbrev pub signs_of : {M : Type 0} → List (Mark M) → List Sign
signs_of {M} [] = []
signs_of {M} (In input ∷ past) = signs_of past
signs_of {M} (Ordered deed ∷ past) = signs_of past
signs_of {M} (Plain sign ∷ past) = sign ∷ signs_of past
