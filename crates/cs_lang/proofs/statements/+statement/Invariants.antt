use Rattle.std.proofs.Common.{◌≡◌, ◌-◌, ◌+◌, ◌*◌, ℕ, length}
use Rattle.cs_lang.specs.Readers.{statements_onward}
use Rattle.cs_lang.proofs.statements.+statement.Given as goal

abbrev pub decreases-statements : goal.decreases-statements
decreases-statements l = 6 * l.left + 5

abbrev pub decreases-other_statements : goal.decreases-other_statements
decreases-other_statements l = 6 * l.left + 4

abbrev pub decreases-other_statement : goal.decreases-other_statement
decreases-other_statement l = 6 * l.left + 3

abbrev pub decreases-statement : goal.decreases-statement
decreases-statement l = 6 * l.left + 2

abbrev pub decreases-if_statement : goal.decreases-if_statement
decreases-if_statement l = 6 * l.left + 1

abbrev pub decreases-for_statement : goal.decreases-for_statement
decreases-for_statement l = 6 * l.left + 1

abbrev pub decreases-block : goal.decreases-block
decreases-block l = 6 * l.left + 0

abbrev pub invariant-other_statements-loop : goal.invariant-other_statements-loop
invariant-other_statements-loop l = statements_onward l.left (length l.initial.cursor - l.counter) l.all l.cursor ≡ statements_onward l.left (length l.initial.cursor) l.initial.all l.initial.cursor
