-- The setting of a schedule: the nodes that don't lie.
use Rattle.std.specs.Prelude.{ℕ, zero, suc, ◌+◌, ◌*◌, ◌/◌, ◌%◌, Bool, Option, List, [], ◌∷◌, ◌++◌, length, get_or, if◌then◌else◌}
use Rattle.cs_base.specs.declared.node_id.NodeId.{NodeId}
use Rattle.cs_tx_types.specs.declared.transaction.Tx.{Tx}
use Rattle.cs_ledger.specs.Ledger.{Bytes}
use Rattle.cs_sched.specs.Naming.{is_liar}
use Rattle.cs_sched.specs.declared.schedule.Schedule.{Schedule}
use Rattle.cs_replay_play.specs.Standing.{Setting}
use Rattle.cs_replay.specs.Site.{setup_of_schedule, net_of_schedule}

-- the node of this number, of shards of so many members each
abbrev pub numbered_node : ℕ → ℕ → NodeId
numbered_node members number = record { shard = number / members; index = number % members }

-- those of the first so many nodes that don't lie
abbrev pub honest_below : ℕ → List NodeId → ℕ → List NodeId
honest_below members liars zero = []
honest_below members liars (suc number) =
    let name = numbered_node members number in
    honest_below members liars number ++ (if is_liar liars name then [] else name ∷ [])

-- the nodes of a schedule that don't lie, shard by shard
abbrev pub honest_nodes : Schedule → List NodeId
honest_nodes schedule =
    let members = 3 * schedule.config.f + 1 in honest_below members schedule.liars (schedule.config.shards * members)

-- the name at a place
abbrev pub name_at_place : List NodeId → ℕ → NodeId
name_at_place names place = get_or names place (record { shard = 0; index = 0 })

abbrev pub setting_of : (Tx → Bool) → Bool → Schedule → Option Bytes → Setting
setting_of approves traced schedule before = record {
  setup = setup_of_schedule approves schedule;
  net = net_of_schedule schedule;
  names = name_at_place (honest_nodes schedule);
  count = length (honest_nodes schedule);
  traced = traced;
  before = before;
}
