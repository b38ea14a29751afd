use Rattle.std.proofs.Common.{◌≡◌, ◌++◌, drop}
use Rattle.cs_lang_print.specs.Statements.{name_text}
use Rattle.cs_lang_print.specs.Words.{GoesOnBehind, each_text, behind_comma}
use Rattle.cs_lang_print.proofs.statements.put_other_names.Given as goal

abbrev pub invariant-loop-name : goal.invariant-loop-name
invariant-loop-name l = record {
  put : l.out.items ++ each_text (behind_comma name_text) (drop l.name-index l.names) ≡ l.initial.out.items ++ each_text (behind_comma name_text) l.names;
  begun : GoesOnBehind l.out.items l.initial.out.items;
}
