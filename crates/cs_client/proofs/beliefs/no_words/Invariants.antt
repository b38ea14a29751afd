use Rattle.std.proofs.Common.{◌≡◌, None, replicate}
use Rattle.cs_client.proofs.beliefs.no_words.Given as goal

abbrev pub invariant-loop-member : goal.invariant-loop-member
invariant-loop-member l = l.words ≡ replicate l._member None
