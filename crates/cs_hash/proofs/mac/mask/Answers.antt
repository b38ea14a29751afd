use Rattle.std.proofs.Common.{◌∙◌, arith}
use Rattle.cs_hash.proofs.Masks.{masked_on, masked_all}
use Rattle.cs_hash.proofs.mac.mask.Goals as goal

pub loop-i-preserved : goal.loop-i-preserved
loop-i-preserved c = masked_on c.args.pad c.loop-i.i c.args.block.now c.loop-i.masked (omega (arith, c.loop-i-test.true, c.told-block)) c.loop-i.invariant

pub returns : goal.returns
returns c = c.loop-i.invariant ∙ masked_all c.args.pad c.loop-i.i c.args.block.now (omega (arith, c.loop-i-test.false, c.told-block))
