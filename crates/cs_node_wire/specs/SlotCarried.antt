-- How the messages of an order among 3f+1 members go between nodes.
use Rattle.std.specs.Prelude.{ℕ, if◌then◌else◌, Option, Some, None}
use Rattle.cs_base.specs.declared.version.Version.{Version}
use Rattle.cs_tx_types.specs.declared.entry.Entry.{Entry}
use Rattle.cs_wire_message.specs.declared.change.Change.{Change}
use Rattle.cs_wire_message.specs.declared.message.Message.{Message}
use Rattle.cs_wire_message.specs.declared.message.Message.TheVariants as message
use Rattle.cs_order_rules.specs.declared.message.Change.{Change as OrderChange}
use Rattle.cs_order_rules.specs.declared.message.OrderMessage.{OrderMessage}
use Rattle.cs_order_rules.specs.declared.message.OrderMessage.TheVariants as order
use Rattle.cs_order_rules.specs.Facts.{proper}
use Rattle.cs_node_rules.specs.Deployment.{proposed_of, entry_read}
use Rattle.cs_node_rules.specs.Site.{Carriers}

-- what is written where nothing can be: any message within the limits would do
abbrev pub blank : Message
blank = message.Want 0

abbrev pub proposal_written : ℕ → ℕ → Option Entry → Message
proposal_written slot view None = blank
proposal_written slot view (Some entry) = message.Propose slot view entry

abbrev pub done_written : ℕ → Option Entry → Message
done_written slot None = blank
done_written slot (Some entry) = message.Done slot entry

abbrev pub change_written : OrderChange → Change
change_written change = record { prepared = change.prepared; echoed = change.echoed }

-- the message of the same kind
abbrev pub kind_written : Version → OrderMessage → Message
kind_written version (order.Propose slot view proposed) = proposal_written slot view (entry_read version proposed)
kind_written version (order.Echo slot view digest) = message.Echo slot view digest
kind_written version (order.Confirm slot view digest) = message.Confirm slot view digest
kind_written version (order.Change slot view change) = message.Change slot view (change_written change)
kind_written version (order.Done slot proposed) = done_written slot (entry_read version proposed)

abbrev pub slot_written : Version → OrderMessage → Message
slot_written version m = if proper m then kind_written version m else blank

abbrev pub change_read : Change → OrderChange
change_read change = record { prepared = change.prepared; echoed = change.echoed }

abbrev pub slot_read : Version → Message → Option OrderMessage
slot_read version (message.Propose slot view entry) = Some (order.Propose slot view (proposed_of version entry))
slot_read version (message.Echo slot view digest) = Some (order.Echo slot view digest)
slot_read version (message.Confirm slot view digest) = Some (order.Confirm slot view digest)
slot_read version (message.Change slot view change) = Some (order.Change slot view (change_read change))
slot_read version (message.Done slot entry) = Some (order.Done slot (proposed_of version entry))
slot_read version said = None

abbrev pub slot_carrier : Carriers OrderMessage
slot_carrier version = record { written = slot_written version; read = slot_read version }
