use Rattle.std.proofs.Common.{arith}
use Rattle.cs_slot.proofs.Ends.{nothing_yet}
use Rattle.cs_slot.proofs.slot.Slot.new.Goals as goal

pub invariant_of-result : goal.invariant_of-result
invariant_of-result c = (c.requires.few, c.requires.member, omega arith, nothing_yet c.args.f c.args.me c.new-3.result c.new-3.ensures)
