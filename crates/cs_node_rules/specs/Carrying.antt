-- What an order may ask of the carrier of its messages.
use Rattle.std.specs.Prelude.{◌≡◌, Bool, true, false, Some, map}
use Rattle.cs_base.specs.declared.version.Version.{Version}
use Rattle.cs_base.specs.Lists.{IsIn}
use Rattle.cs_tx_types.specs.declared.entry.Entry.{Entry}
use Rattle.cs_tx_types.specs.Entry.{EntryFits}
use Rattle.cs_wire_message.specs.declared.message.Message.{Message}
use Rattle.cs_wire_message.specs.Classes.{Class, OfOrder, class_of}
use Rattle.cs_wire_message.specs.Message.{MessageFits}
use Rattle.cs_order.specs.declared.proposed.Proposed.{Proposed}
use Rattle.cs_order.specs.Deeds.{Machine}
use Rattle.cs_node_rules.specs.Collisions.{entries_in}
use Rattle.cs_node_rules.specs.Deployment.{proposed_of}
use Rattle.cs_node_rules.specs.Site.{Carrier, Carriers}

abbrev pub is_of_order : Class → Bool
is_of_order OfOrder = true
is_of_order class = false

-- the class in which members of a shard agree
abbrev pub is_ordering : Message → Bool
is_ordering said = is_of_order (class_of said)

-- an entry of this version with its digest, as nodes propose it
pub record IsEntry (version : Version) (proposed : Proposed) : Type 0 where
  pub entry : Entry
  pub fits : EntryFits version entry
  pub is : proposed ≡ proposed_of version entry

pub record Carries {M : Type 0} (version : Version) (machine : Machine M) (carrier : Carrier M) : Type 0 where
  -- what is written is within the limits of messages
  pub fits : (m : M) → MessageFits version (carrier.written m)
  -- a proper message of entries is carried by one of the order's kinds, and read as it was
  pub ours : (m : M) → machine.proper m ≡ true → ((p : Proposed) → IsIn p (machine.carried m) → IsEntry version p) →
      is_ordering (carrier.written m) ≡ true
  pub back : (m : M) → machine.proper m ≡ true → ((p : Proposed) → IsIn p (machine.carried m) → IsEntry version p) →
      carrier.read (carrier.written m) ≡ Some m
  -- only messages of the order's kinds are read; what is read is proper, and its entries are those of the message
  pub theirs : (said : Message) (m : M) → carrier.read said ≡ Some m → is_ordering said ≡ true
  pub proper : (said : Message) (m : M) → MessageFits version said → carrier.read said ≡ Some m →
      machine.proper m ≡ true
  pub entries : (said : Message) (m : M) → carrier.read said ≡ Some m →
      machine.carried m ≡ map (proposed_of version) (entries_in said)

-- so in each version
abbrev pub AllCarry : {M : Type 0} → Machine M → Carriers M → Type 0
AllCarry {M} machine carriers = (version : Version) → Carries version machine (carriers version)
