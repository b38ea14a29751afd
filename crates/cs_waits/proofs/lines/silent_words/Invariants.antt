use Rattle.std.proofs.Common.{◌≡◌, take}
use Rattle.std.specs.Prelude.{string_bytes}
use Rattle.std.specs.List.{flat_map}
use Rattle.cs_waits.specs.Lines.{silent_word}
use Rattle.cs_waits.proofs.lines.silent_words.Given as goal

abbrev pub invariant-loop-node : goal.invariant-loop-node
invariant-loop-node l = string_bytes l.text ≡ flat_map (silent_word l.heard) (take l.node-index l.asked)
