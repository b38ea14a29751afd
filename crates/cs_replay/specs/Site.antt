-- The site of a schedule: the order among 3f+1 members, and a judge that approves so.
use Rattle.std.specs.Prelude.{Bool}
use Rattle.cs_tx_types.specs.declared.transaction.Tx.{Tx}
use Rattle.cs_tx.specs.Sessions.{ledger_session}
use Rattle.cs_order_rules.specs.SlotMachine.{slot_machine}
use Rattle.cs_order_rules.specs.declared.message.OrderMessage.{OrderMessage}
use Rattle.cs_sched.specs.declared.schedule.Schedule.{Schedule}
use Rattle.cs_node_state.specs.Setup.{Setup}
use Rattle.cs_node_rules.specs.Net.{Net, net_of}
use Rattle.cs_node_rules.specs.Site.{Site}
use Rattle.cs_node_rules.specs.Deployment.{site_of}
use Rattle.cs_node_state.specs.Deployed.{setup_of}
use Rattle.cs_node_wire.specs.SlotCarried.{slot_carrier}

abbrev pub setup_of_schedule : (Tx → Bool) → Schedule → Setup
setup_of_schedule approves schedule = setup_of schedule.config schedule.genesis (ledger_session approves)

abbrev pub net_of_schedule : Schedule → Net
net_of_schedule schedule = net_of schedule.config schedule.master schedule.liars

abbrev pub site_of_schedule : (Tx → Bool) → Schedule → Site OrderMessage
site_of_schedule approves schedule =
    site_of (setup_of_schedule approves schedule) (net_of_schedule schedule) slot_machine slot_carrier
