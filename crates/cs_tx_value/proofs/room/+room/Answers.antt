use Rattle.std.proofs.Common.{◌≡◌, None, arith}
use Rattle.cs_base.proofs.Written.{length-each-more, length-each-at}
use Rattle.cs_tx_value.specs.Encoding.{value_encoding}
use Rattle.cs_tx_value.proofs.room.+room.Goals as goal

pub values_room-returns-in_err-left : goal.values_room-returns-in_err-left
values_room-returns-in_err-left t c =
    let none : c.from_residual.result ≡ None = c.from_residual.ensures in
    rw none (omega (arith, c.in_err-left.ensures, c.loop-value.invariant, length-each-at value_encoding c.args.values.now c.loop-value.value-index c.value-item.result c.loop-value-test.true c.value-item.is))

pub values_room-loop-value-preserved : goal.values_room-loop-value-preserved
values_room-loop-value-preserved t c = omega (arith, c.in_ok-left.ensures, c.loop-value.invariant, length-each-more value_encoding c.args.values.now c.loop-value.value-index c.value-item.result c.loop-value-test.true c.value-item.is)
