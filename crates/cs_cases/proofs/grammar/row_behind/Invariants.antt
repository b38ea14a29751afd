use Rattle.std.proofs.Common.{◌≡◌, ◌-◌}
use Rattle.cs_lang_token.specs.declared.kind.Kind.TheVariants as kind
use Rattle.cs_lang_token.specs.declared.limits.TheConstants.{MOST_ITEMS}
use Rattle.cs_cases.specs.Grammar.{row_onward, object_level}
use Rattle.cs_cases.proofs.grammar.row_behind.Given as goal

abbrev pub invariant-loop : goal.invariant-loop
invariant-loop l = row_onward kind.Close (object_level l.id) (MOST_ITEMS - l.counter) l.all l.cursor ≡ row_onward kind.Close (object_level l.id) MOST_ITEMS l.fn.first l.initial.cursor
