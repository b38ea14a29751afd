use Rattle.std.proofs.Common.{◌≡◌, drop}
use Rattle.cs_show.specs.Words.{first_said}
use Rattle.cs_show.proofs.words.first_said.Given as goal

abbrev pub invariant-loop-word : goal.invariant-loop-word
invariant-loop-word l = first_said l.f l.words (drop l.word-index l.words) ≡ first_said l.f l.words l.words
