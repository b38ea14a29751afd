use Rattle.std.proofs.Common.{◌≡◌, ◌++◌}
use Rattle.std.specs.Prelude.{codes}
use Rattle.cs_lang_print.specs.Words.{word}
use Rattle.cs_lang_print.specs.Runs.{times}
use Rattle.cs_lang_print.proofs.expressions.put_opened.Given as goal

abbrev pub invariant-loop : goal.invariant-loop
invariant-loop l = l.out.items ≡ l.initial.out.items ++ times l.counter (word (codes "("))
