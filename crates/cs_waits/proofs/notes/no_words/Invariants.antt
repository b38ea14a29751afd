use Rattle.std.proofs.Common.{◌≡◌, replicate}
use Rattle.cs_waits.specs.declared.words.Word.TheVariants.{Silent}
use Rattle.cs_waits.proofs.notes.no_words.Given as goal

abbrev pub invariant-loop-member : goal.invariant-loop-member
invariant-loop-member l = l.words ≡ replicate l._member Silent
