use Rattle.std.proofs.Common.{[]}
use Rattle.cs_log.specs.Stands.{IsLed}
use Rattle.cs_log.proofs.Whole.{at_whole}
use Rattle.cs_log.proofs.slot_order.SlotOrder.new.Goals as goal

pub invariant_of-result : goal.invariant_of-result
invariant_of-result c =
    at_whole IsLed c.new-2.result c.in_ok-replica.replica c.new-2.ensures
    (record { f = c.args.f; me = c.args.me; deeds = [] }, record { mirrors = c.in_ok-replica.ensures.mirrors; first = c.in_ok-replica.ensures.first })
