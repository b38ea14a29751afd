use Rattle.std.proofs.lemmas.Result.{err_from_is_err_and}
use Rattle.cs_base.specs.Fields.{many_at}
use Rattle.cs_base.proofs.Many.{goes_on, is_done}
use Rattle.cs_tx_value.specs.Reading.{value_at}
use Rattle.cs_tx_value.proofs.Loop.{ends}
use Rattle.cs_tx_value.proofs.reading.+value.Goals as goal

pub values_of-returns-in_err-value : goal.values_of-returns-in_err-value
values_of-returns-in_err-value t c =
    let p = err_from_is_err_and c.from_residual.result c.from_residual.ensures.1 in
    rw (p.1, p.2) (ends c.in_err-value.field-0.0 (value_at c.args.depth) c.loop.values c.args.count c.loop.counter c.loop.cursor (many_at (value_at c.args.depth) c.args.count c.args.cursor.now) c.loop-test.true c.in_err-value.ensures c.loop.invariant)

pub values_of-loop-preserved : goal.values_of-loop-preserved
values_of-loop-preserved t c = rw c.in_ok-push.ensures.ok (goes_on (value_at c.args.depth) c.loop.values c.args.count c.loop.counter c.loop.cursor c.in_ok-value.value c.value_of.new.cursor (many_at (value_at c.args.depth) c.args.count c.args.cursor.now) c.loop-test.true c.in_ok-value.ensures c.loop.invariant)

pub values_of-returns : goal.values_of-returns
values_of-returns t c = is_done (value_at c.args.depth) c.loop.values c.args.count c.loop.counter c.loop.cursor (many_at (value_at c.args.depth) c.args.count c.args.cursor.now) c.loop-test.false c.loop.invariant
