use Rattle.std.proofs.Common.{◌≡◌, take}
use Rattle.std.specs.Prelude.{count_by}
use Rattle.cs_waits.specs.Words.{is_said}
use Rattle.cs_waits.proofs.words.is_told.Given as goal

abbrev pub invariant-loop-word : goal.invariant-loop-word
invariant-loop-word l = l.count ≡ count_by is_said (take l.word-index l.words)
