use Rattle.std.proofs.Common.{◌≡◌, length}
use Rattle.cs_log.specs.contracts.slot_order.SlotOrderOrder.TheImpl as order
use Rattle.cs_node_rules.specs.Site.{start_view}
use Rattle.cs_replay_play.specs.Standing.{EachStands}
use Rattle.cs_replay.specs.Site.{site_of_schedule}
use Rattle.cs_replay.specs.Settings.{honest_nodes, name_at_place}
use Rattle.cs_replay.proofs.starting.start_nodes.Given as goal

abbrev pub invariant-loop-name : goal.invariant-loop-name
invariant-loop-name g l =
    (length l.cores.items ≡ l.name-index)
    × EachStands order.ghosts.stands g.J.Judge.is_approved (site_of_schedule (g.J.Judge.is_approved l.judge) l.schedule) l.cores.items
    (λ i. start_view (site_of_schedule (g.J.Judge.is_approved l.judge) l.schedule) (name_at_place (honest_nodes l.schedule) i))
