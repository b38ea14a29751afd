use Rattle.std.proofs.Common.{◌≡◌, drop}
use Rattle.cs_waits.specs.Words.{first_user}
use Rattle.cs_waits.proofs.words.user_in.Given as goal

abbrev pub invariant-loop-word : goal.invariant-loop-word
invariant-loop-word l = first_user l.f l.words (drop l.word-index l.words) ≡ first_user l.f l.words l.words
