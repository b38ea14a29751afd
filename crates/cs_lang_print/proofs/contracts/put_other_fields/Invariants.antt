use Rattle.std.proofs.Common.{◌≡◌, ◌++◌, drop}
use Rattle.cs_lang_print.specs.Texts.{field_text}
use Rattle.cs_lang_print.specs.Words.{GoesOnBehind, each_text, behind_comma}
use Rattle.cs_lang_print.proofs.contracts.put_other_fields.Given as goal

abbrev pub invariant-loop-field : goal.invariant-loop-field
invariant-loop-field l = record {
  put : l.out.items ++ each_text (behind_comma field_text) (drop l.field-index l.fields) ≡ l.initial.out.items ++ each_text (behind_comma field_text) l.fields;
  begun : GoesOnBehind l.out.items l.initial.out.items;
}
