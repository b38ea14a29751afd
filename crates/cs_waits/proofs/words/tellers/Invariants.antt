use Rattle.std.proofs.Common.{◌≡◌, take}
use Rattle.cs_waits.specs.Words.{tellers}
use Rattle.cs_waits.proofs.words.tellers.Given as goal

abbrev pub invariant-loop-word : goal.invariant-loop-word
invariant-loop-word l = l.count ≡ tellers l.session (take l.word-index l.words)
