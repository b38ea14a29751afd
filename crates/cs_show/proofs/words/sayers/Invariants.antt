use Rattle.std.proofs.Common.{◌≡◌, take}
use Rattle.cs_show.specs.Words.{sayers}
use Rattle.cs_show.proofs.words.sayers.Given as goal

abbrev pub invariant-loop-word : goal.invariant-loop-word
invariant-loop-word l = l.count ≡ sayers l.line (take l.word-index l.words)
