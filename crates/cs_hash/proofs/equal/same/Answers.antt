use Rattle.std.proofs.Common.{arith}
use Rattle.cs_hash.proofs.Bits.{alike_more}
use Rattle.cs_hash.proofs.equal.same.Goals as goal

pub loop-i-preserved : goal.loop-i-preserved
loop-i-preserved c = alike_more c.loop-i.differing c.loop-i.i c.args.a.now c.args.b.now (omega (arith, c.loop-i-test.true, c.told-a)) (omega (arith, c.loop-i-test.true, c.told-b)) c.loop-i.invariant
