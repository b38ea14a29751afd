use Rattle.std.proofs.Common.{◌≡◌, ◌++◌, drop}
use Rattle.cs_lang_print.specs.Texts.{type_text}
use Rattle.cs_lang_print.specs.Words.{GoesOnBehind, each_text}
use Rattle.cs_lang_print.proofs.contracts.put_types.Given as goal

abbrev pub invariant-loop-typedef : goal.invariant-loop-typedef
invariant-loop-typedef l = record {
  put : l.out.items ++ each_text type_text (drop l.typedef-index l.types) ≡ l.initial.out.items ++ each_text type_text l.types;
  begun : GoesOnBehind l.out.items l.initial.out.items;
}
