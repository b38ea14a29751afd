use Rattle.std.proofs.Common.{arith}
use Rattle.cs_base.proofs.Written.{length-each-at}
use Rattle.cs_tx_value.specs.Encoding.{value_encoding}
use Rattle.cs_eval_shared.proofs.Opening.{items_shorter}
use Rattle.cs_eval_shared.proofs.copies.+value_of.Goals as goal

pub each_value-value_of-requires : goal.each_value-value_of-requires
each_value-value_of-requires t c =
    (omega (arith, c.decreases, length-each-at value_encoding c.args.items.now c.loop-item.item-index c.item-item.result c.loop-item-test.true c.item-item.is), tt)

pub value_of-each_value-requires : goal.value_of-each_value-requires
value_of-each_value-requires t c =
    (omega (arith, c.decreases, items_shorter c.args.shared.now c.in-List.items.now c.in-List.ensures), tt)
