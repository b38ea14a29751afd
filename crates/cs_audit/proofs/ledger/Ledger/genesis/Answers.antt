use Rattle.std.proofs.Common.{take}
use Rattle.cs_table.specs.Genesis.{keyed_of}
use Rattle.cs_audit.proofs.Shown.{one-begun}
use Rattle.cs_audit.proofs.ledger.Ledger.genesis.Goals as goal

pub loop-item-preserved : goal.loop-item-preserved
loop-item-preserved c =
    one-begun c.begin.new.self c.args.items.now c.loop-item.item-index c.item-item.result c.loop-item-test.true c.item-item.is
    (c.in_ok-begin.ensures (keyed_of (take c.loop-item.item-index c.args.items.now)) c.loop-item.invariant)
