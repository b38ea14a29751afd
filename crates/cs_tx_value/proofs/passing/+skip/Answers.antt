use Rattle.std.proofs.lemmas.Result.{err_from_is_err_and}
use Rattle.cs_base.specs.Fields.{many_at, behind}
use Rattle.cs_base.proofs.Many.{passes_on, passes_not, passed_all}
use Rattle.cs_tx_value.specs.Reading.{value_at}
use Rattle.cs_tx_value.proofs.passing.+skip.Goals as goal

pub skip_values-returns-in_err-skip_value : goal.skip_values-returns-in_err-skip_value
skip_values-returns-in_err-skip_value t c =
    let p = err_from_is_err_and c.from_residual.result c.from_residual.ensures.1 in
    rw (p.1, p.2) (c.in_err-skip_value.ensures.0, passes_not (value_at c.args.depth) c.args.count c.loop.counter c.loop.cursor (behind (many_at (value_at c.args.depth) c.args.count c.args.cursor.now)) c.loop-test.true c.in_err-skip_value.ensures.1 c.loop.invariant)

pub skip_values-loop-preserved : goal.skip_values-loop-preserved
skip_values-loop-preserved t c = passes_on (value_at c.args.depth) c.args.count c.loop.counter c.loop.cursor c.skip_value.new.cursor (behind (many_at (value_at c.args.depth) c.args.count c.args.cursor.now)) c.loop-test.true c.in_ok-skip_value.ensures c.loop.invariant

pub skip_values-returns : goal.skip_values-returns
skip_values-returns t c = passed_all (value_at c.args.depth) c.args.count c.loop.counter c.loop.cursor (behind (many_at (value_at c.args.depth) c.args.count c.args.cursor.now)) c.loop-test.false c.loop.invariant
