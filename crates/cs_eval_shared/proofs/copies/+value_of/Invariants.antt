use Rattle.std.proofs.Common.{◌≡◌, ◌+◌, ◌*◌, length, take}
use Rattle.cs_base.specs.Fields.{each}
use Rattle.cs_tx_value.specs.Encoding.{value_encoding}
use Rattle.cs_eval_shared.proofs.copies.+value_of.Given as goal

abbrev pub invariant-each_value-loop-item : goal.invariant-each_value-loop-item
invariant-each_value-loop-item l = l.values ≡ take l.item-index l.items

-- a list is longer than all of its items together, and these are no shorter than one of them
abbrev pub decreases-each_value : goal.decreases-each_value
decreases-each_value l = 2 * length (each value_encoding l.items.now) + 1

abbrev pub decreases-value_of : goal.decreases-value_of
decreases-value_of l = 2 * length (value_encoding l.shared.now)
