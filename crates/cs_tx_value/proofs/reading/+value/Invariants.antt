use Rattle.std.proofs.Common.{◌≡◌, ◌+◌, ◌-◌, ◌*◌}
use Rattle.cs_base.specs.Fields.{many_at}
use Rattle.cs_base.proofs.Many.{with_front}
use Rattle.cs_tx_value.specs.Reading.{value_at}
use Rattle.cs_tx_value.proofs.reading.+value.Given as goal

abbrev pub decreases-values_of : goal.decreases-values_of
decreases-values_of l = 3 * l.depth + 1

abbrev pub decreases-items_of : goal.decreases-items_of
decreases-items_of l = 3 * l.depth + 2

abbrev pub decreases-value_of : goal.decreases-value_of
decreases-value_of l = 3 * l.depth

abbrev pub invariant-values_of-loop : goal.invariant-values_of-loop
invariant-values_of-loop l = with_front l.values (many_at (value_at l.depth) (l.count - l.counter) l.cursor) ≡ many_at (value_at l.depth) l.count l.initial.cursor
