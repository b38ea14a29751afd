use Rattle.std.proofs.Common.{◌≡◌, ◌++◌, drop}
use Rattle.cs_lang_print.specs.Texts.{slot_text}
use Rattle.cs_lang_print.specs.Words.{GoesOnBehind, each_text, behind_comma}
use Rattle.cs_lang_print.proofs.contracts.put_other_slots.Given as goal

abbrev pub invariant-loop-slot : goal.invariant-loop-slot
invariant-loop-slot l = record {
  put : l.out.items ++ each_text (behind_comma slot_text) (drop l.slot-index l.slots) ≡ l.initial.out.items ++ each_text (behind_comma slot_text) l.slots;
  begun : GoesOnBehind l.out.items l.initial.out.items;
}
