use Rattle.std.proofs.Common.{◌≡◌}
use Rattle.cs_table.specs.Dummies.{first_active}
use Rattle.cs_table.proofs.listing.first_active.Given as goal

abbrev pub invariant-loop-key : goal.invariant-loop-key
invariant-loop-key l =
    (goal.iterator-loop-key).can_next l.key-iterator
    × (goal.iterator-loop-key).is_finite l.key-iterator
    × (first_active l.key-iterator ≡ first_active l.fn.rows)
