use Rattle.cs_tx_types.specs.Transaction.{keyed_encoding}
use Rattle.cs_native.proofs.Taken.{each_taken}
use Rattle.cs_native.proofs.taking.take_keyed.Goals as goal

pub loop-item-preserved : goal.loop-item-preserved
loop-item-preserved c =
    each_taken keyed_encoding c.args.items.now c.loop-item.item-index c.item-item.result c.update.new.self c.loop-item.hasher c.take_one_keyed.new.hasher
    c.loop-item-test.true c.item-item.is c.loop-item.invariant c.take_one_keyed.ensures
