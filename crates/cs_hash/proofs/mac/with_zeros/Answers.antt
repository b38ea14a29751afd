use Rattle.cs_hash.proofs.Masks.{filled_whole}
use Rattle.cs_hash.proofs.mac.with_zeros.Goals as goal

pub returns : goal.returns
returns c = filled_whole c.args.key.now c.loop-i.block c.loop-i.i c.loop-i.invariant c.loop-i-test.false c.loop-i.auto.i-end
