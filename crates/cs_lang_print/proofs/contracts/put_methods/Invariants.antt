use Rattle.std.proofs.Common.{◌≡◌, ◌++◌, drop}
use Rattle.cs_lang_print.specs.Texts.{method_text}
use Rattle.cs_lang_print.specs.Words.{GoesOnBehind, each_text}
use Rattle.cs_lang_print.proofs.contracts.put_methods.Given as goal

abbrev pub invariant-loop-method : goal.invariant-loop-method
invariant-loop-method l = record {
  put : l.out.items ++ each_text method_text (drop l.method-index l.methods) ≡ l.initial.out.items ++ each_text method_text l.methods;
  begun : GoesOnBehind l.out.items l.initial.out.items;
}
