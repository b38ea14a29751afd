use Rattle.std.proofs.Common.{◌≡◌, take}
use Rattle.std.specs.Prelude.{string_bytes}
use Rattle.std.specs.List.{flat_map}
use Rattle.cs_waits.specs.Lines.{told_word}
use Rattle.cs_waits.proofs.lines.told_words.Given as goal

abbrev pub invariant-loop-name : goal.invariant-loop-name
invariant-loop-name l = string_bytes l.text ≡ flat_map (told_word l.f l.watched) (take l.name-index l.names)
