use Rattle.std.proofs.Common.{◌≡◌, ◌++◌, drop}
use Rattle.cs_lang_print.specs.Words.{GoesOnBehind, hex_text}
use Rattle.cs_lang_print.proofs.words.put_hex.Given as goal

abbrev pub invariant-loop-byte : goal.invariant-loop-byte
invariant-loop-byte l = record {
  put : l.out.items ++ hex_text (drop l.byte-index l.bytes) ≡ l.initial.out.items ++ hex_text l.bytes;
  begun : GoesOnBehind l.out.items l.initial.out.items;
}
