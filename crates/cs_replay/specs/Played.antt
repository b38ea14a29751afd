-- What is played of a schedule: all its events, or those before the one that was refused.
use Rattle.std.specs.Prelude.{Bool, List}
use Rattle.cs_tx_types.specs.declared.transaction.Tx.{Tx}
use Rattle.cs_ledger.specs.Ledger.{Bytes, Transaction}
use Rattle.cs_order_rules.specs.declared.message.OrderMessage.{OrderMessage}
use Rattle.cs_sched.specs.declared.schedule.Schedule.{Schedule}
use Rattle.cs_replay_rules.specs.Aborts.{aborted}
use Rattle.cs_node_rules.specs.Lines.{Parcel}
use Rattle.cs_replay_rules.specs.Play.{Course, unplayed, played_by, play_all}
use Rattle.cs_node_rules.specs.World.{Happening, recorded_history}
use Rattle.cs_replay.specs.Site.{setup_of_schedule, site_of_schedule}

-- the events of a schedule, played at nodes whose judge approves so
abbrev pub course_of : (Tx → Bool) → Bool → Schedule → Course OrderMessage
course_of approves traced schedule = play_all (site_of_schedule approves schedule) traced schedule.events unplayed

-- the events, with all that they make
abbrev pub world_of : (Tx → Bool) → Bool → Schedule → List (Happening OrderMessage)
world_of approves traced schedule = (played_by (course_of approves traced schedule)).world

abbrev pub history_of : (Tx → Bool) → Bool → Schedule → List Transaction
history_of approves traced schedule =
    recorded_history (site_of_schedule approves schedule) (world_of approves traced schedule)

-- the sessions on which a node decided abort
abbrev pub aborted_of : (Tx → Bool) → Bool → Schedule → List Bytes
aborted_of approves traced schedule =
    aborted (setup_of_schedule approves schedule) (world_of approves traced schedule)

-- the datagrams that the nodes sent
abbrev pub sent_of : (Tx → Bool) → Bool → Schedule → List Parcel
sent_of approves traced schedule = (played_by (course_of approves traced schedule)).parcels
