use Rattle.cs_hash.proofs.Bits.{AreAlike}
use Rattle.cs_hash.proofs.equal.same.Given as goal

abbrev pub invariant-loop-i : goal.invariant-loop-i
invariant-loop-i l = AreAlike l.differing l.i l.a l.b
