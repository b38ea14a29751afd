use Rattle.std.proofs.Common.{◌≡◌, ◌+◌, ◌-◌, ◌*◌}
use Rattle.cs_base.specs.Fields.{many_at, behind}
use Rattle.cs_tx_value.specs.Reading.{value_at}
use Rattle.cs_tx_value.proofs.passing.+skip.Given as goal

abbrev pub decreases-skip_values : goal.decreases-skip_values
decreases-skip_values l = 3 * l.depth + 1

abbrev pub decreases-skip_items : goal.decreases-skip_items
decreases-skip_items l = 3 * l.depth + 2

abbrev pub decreases-skip_value : goal.decreases-skip_value
decreases-skip_value l = 3 * l.depth

abbrev pub invariant-skip_values-loop : goal.invariant-skip_values-loop
invariant-skip_values-loop l = behind (many_at (value_at l.depth) (l.count - l.counter) l.cursor) ≡ behind (many_at (value_at l.depth) l.count l.initial.cursor)
