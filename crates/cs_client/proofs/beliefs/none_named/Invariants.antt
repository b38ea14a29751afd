use Rattle.std.proofs.Common.{◌≡◌, [], replicate}
use Rattle.cs_client.proofs.beliefs.none_named.Given as goal

abbrev pub invariant-loop-member : goal.invariant-loop-member
invariant-loop-member l = l.words ≡ replicate l._member []
