use Rattle.std.proofs.Common.{◌≡◌, ◌-◌, ◌+◌, ◌*◌, ℕ, length}
use Rattle.cs_lang.specs.declared.tree.Rank.{Rank}
use Rattle.cs_lang.specs.declared.tree.Rank.TheVariants as rank
use Rattle.cs_lang.specs.Readers.{ranked_onward, items_onward, post_onward}
use Rattle.cs_lang.proofs.expressions.+expression.Given as goal

-- the looser a chain, the more stands below it
abbrev height : Rank → ℕ
height rank.Product = 12
height rank.Sum = 17
height rank.And = 25
height rank.Or = 30

abbrev pub decreases-chain : goal.decreases-chain
decreases-chain l = 40 * l.left + height l.rank + 4

abbrev pub decreases-rights : goal.decreases-rights
decreases-rights l = 40 * l.left + height l.rank + 3

abbrev pub decreases-right : goal.decreases-right
decreases-right l = 40 * l.left + height l.rank + 2

abbrev pub decreases-link : goal.decreases-link
decreases-link l = 40 * l.left + height l.rank + 1

abbrev pub decreases-operand : goal.decreases-operand
decreases-operand l = 40 * l.left + height l.rank

abbrev pub decreases-negated : goal.decreases-negated
decreases-negated l = 40 * l.left + 24

abbrev pub decreases-compared : goal.decreases-compared
decreases-compared l = 40 * l.left + 23

abbrev pub decreases-other_side : goal.decreases-other_side
decreases-other_side l = 40 * l.left + 22

abbrev pub decreases-signed : goal.decreases-signed
decreases-signed l = 40 * l.left + 11

abbrev pub decreases-postfix : goal.decreases-postfix
decreases-postfix l = 40 * l.left + 10

abbrev pub decreases-steps : goal.decreases-steps
decreases-steps l = 40 * l.left + 9

abbrev pub decreases-step : goal.decreases-step
decreases-step l = 40 * l.left + 8

abbrev pub decreases-access : goal.decreases-access
decreases-access l = 40 * l.left + 7

abbrev pub decreases-primary : goal.decreases-primary
decreases-primary l = 40 * l.left + 6

abbrev pub decreases-worded : goal.decreases-worded
decreases-worded l = 40 * l.left + 5

abbrev pub decreases-group : goal.decreases-group
decreases-group l = 40 * l.left + 4

abbrev pub decreases-bracket : goal.decreases-bracket
decreases-bracket l = 40 * l.left + 4

abbrev pub decreases-length_of : goal.decreases-length_of
decreases-length_of l = 40 * l.left + 4

abbrev pub decreases-hash_of : goal.decreases-hash_of
decreases-hash_of l = 40 * l.left + 4

abbrev pub decreases-concat : goal.decreases-concat
decreases-concat l = 40 * l.left + 4

abbrev pub decreases-items : goal.decreases-items
decreases-items l = 40 * l.left + 38

abbrev pub decreases-other_items : goal.decreases-other_items
decreases-other_items l = 40 * l.left + 37

abbrev pub decreases-other_item : goal.decreases-other_item
decreases-other_item l = 40 * l.left + 36

abbrev pub decreases-two : goal.decreases-two
decreases-two l = 40 * l.left + 36

abbrev pub decreases-behind_comma : goal.decreases-behind_comma
decreases-behind_comma l = 40 * l.left + 35

abbrev pub invariant-rights-loop : goal.invariant-rights-loop
invariant-rights-loop l = ranked_onward l.rank l.left (64 - l.counter) l.all l.cursor ≡ ranked_onward l.rank l.left 64 l.initial.all l.initial.cursor

abbrev pub invariant-steps-loop : goal.invariant-steps-loop
invariant-steps-loop l = post_onward l.left (64 - l.counter) l.all l.cursor ≡ post_onward l.left 64 l.initial.all l.initial.cursor

abbrev pub invariant-other_items-loop : goal.invariant-other_items-loop
invariant-other_items-loop l = items_onward l.left (length l.initial.cursor - l.counter) l.all l.cursor ≡ items_onward l.left (length l.initial.cursor) l.initial.all l.initial.cursor
