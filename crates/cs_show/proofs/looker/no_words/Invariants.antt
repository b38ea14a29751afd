use Rattle.std.proofs.Common.{◌≡◌, None, replicate}
use Rattle.cs_show.proofs.looker.no_words.Given as goal

abbrev pub invariant-loop-member : goal.invariant-loop-member
invariant-loop-member l = l.words.items ≡ replicate l._member None
