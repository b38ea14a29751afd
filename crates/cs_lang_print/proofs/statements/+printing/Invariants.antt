use Rattle.std.proofs.Common.{◌≡◌, ◌++◌, drop}
use Rattle.cs_lang_print.specs.Words.{GoesOnBehind, each_text}
use Rattle.cs_lang_print.specs.Statements.{statement_text}
use Rattle.cs_lang_print.proofs.statements.+printing.Given as goal

abbrev pub invariant-put_all-loop-one : goal.invariant-put_all-loop-one
invariant-put_all-loop-one l = record {
  put : l.out.items ++ each_text statement_text (drop l.one-index l.statements) ≡ l.initial.out.items ++ each_text statement_text l.statements;
  begun : GoesOnBehind l.out.items l.initial.out.items;
}
