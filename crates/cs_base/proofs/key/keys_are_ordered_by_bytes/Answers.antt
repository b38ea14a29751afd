use Rattle.std.proofs.Common.{sym, refl}
use Rattle.cs_base.specs.declared.key.Key.TheVariants.{Object, Dummy}
use Rattle.cs_base.proofs.KeyOrder.{dummies_cmp}
use Rattle.cs_base.proofs.key.keys_are_ordered_by_bytes.Goals as goal

pub returns : goal.returns
returns c (Object a) (Object b) fits fits' = refl
returns c (Object a) (Dummy shard serial) fits fits' = refl
returns c (Dummy shard serial) (Object b) fits fits' = refl
returns c (Dummy shard serial) (Dummy shard' serial') fits fits' = sym (dummies_cmp shard shard' serial serial' fits.0 fits'.0 fits.1 fits'.1)
