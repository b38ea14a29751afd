use Rattle.std.proofs.Common.{◌≡◌, ◌+◌, ◌-◌, ◌*◌}
use Rattle.cs_lang_token.specs.declared.limits.TheConstants.{MOST_ITEMS}
use Rattle.cs_cases.specs.Grammar.{row_onward, value_level}
use Rattle.cs_cases.proofs.values.+values.Given as goal

abbrev pub decreases-value : goal.decreases-value
decreases-value l = 5 * l.left

abbrev pub decreases-list : goal.decreases-list
decreases-list l = 5 * l.left + 4

abbrev pub decreases-row : goal.decreases-row
decreases-row l = 5 * l.left + 3

abbrev pub decreases-row_behind : goal.decreases-row_behind
decreases-row_behind l = 5 * l.left + 2

abbrev pub decreases-one_more : goal.decreases-one_more
decreases-one_more l = 5 * l.left + 1

abbrev pub invariant-row_behind-loop : goal.invariant-row_behind-loop
invariant-row_behind-loop l = row_onward l.close (value_level l.left) (MOST_ITEMS - l.counter) l.all l.cursor ≡ row_onward l.close (value_level l.left) MOST_ITEMS l.fn.first l.initial.cursor
