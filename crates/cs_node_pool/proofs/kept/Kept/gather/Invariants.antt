use Rattle.std.proofs.Common.{◌≡◌}
use Rattle.cs_node_pool.specs.Batches.{filled, actions_at}
use Rattle.cs_node_pool.proofs.kept.Kept.gather.Given as goal

abbrev pub invariant-loop-index : goal.invariant-loop-index
invariant-loop-index l =
    (goal.iterator-loop-index).can_next l.index-iterator
    × (goal.iterator-loop-index).is_finite l.index-iterator
    × (filled l.batch (actions_at l.self.seats.entries l.index-iterator) ≡ filled l.fn.batch (actions_at l.self.seats.entries l.places.keys))
