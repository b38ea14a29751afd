use Rattle.std.proofs.Common.{◌≡◌}
use Rattle.cs_hash.proofs.Masks.{masked_up}
use Rattle.cs_hash.proofs.mac.mask.Given as goal

abbrev pub invariant-loop-i : goal.invariant-loop-i
invariant-loop-i l = l.masked ≡ masked_up l.pad l.i l.block
