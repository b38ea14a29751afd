use Rattle.std.proofs.Common.{◌≡◌, None, arith}
use Rattle.cs_base.proofs.Written.{length-each-more, length-each-at}
use Rattle.cs_tx_value.specs.Encoding.{value_encoding}
use Rattle.cs_eval_shared.proofs.measure.items_room.Goals as goal

pub returns-in_err-left : goal.returns-in_err-left
returns-in_err-left c =
    let none : c.from_residual.result ≡ None = c.from_residual.ensures in
    rw none (omega (arith, c.in_err-left.ensures, c.encoded.ensures, c.loop-item.invariant, length-each-at value_encoding c.args.items.now c.loop-item.item-index c.item-item.result c.loop-item-test.true c.item-item.is))

pub loop-item-preserved : goal.loop-item-preserved
loop-item-preserved c = omega (arith, c.in_ok-left.ensures, c.encoded.ensures, c.loop-item.invariant, length-each-more value_encoding c.args.items.now c.loop-item.item-index c.item-item.result c.loop-item-test.true c.item-item.is)
