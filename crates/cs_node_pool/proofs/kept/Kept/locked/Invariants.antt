use Rattle.std.proofs.Common.{◌≡◌, ◌++◌}
use Rattle.cs_node_pool.specs.Fits.{PoolFits, SessionsFit}
use Rattle.cs_node_pool.specs.Calls.{locked_in}
use Rattle.cs_node_pool.specs.Seats.{seated, pool_in}
use Rattle.cs_node_pool.proofs.kept.Kept.locked.Given as goal

abbrev pub invariant-loop-place : goal.invariant-loop-place
invariant-loop-place l =
    (goal.iterator-loop-place).can_next l.place-iterator
    × (goal.iterator-loop-place).is_finite l.place-iterator
    × PoolFits (seated l.place-iterator)
    × SessionsFit l.sessions.items
    × (l.sessions.items ++ locked_in (seated l.place-iterator) ≡ locked_in (pool_in l.self))
