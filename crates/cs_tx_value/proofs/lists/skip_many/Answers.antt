use Rattle.std.proofs.lemmas.Result.{err_from_is_err_and}
use Rattle.cs_base.specs.Fields.{many_at, behind}
use Rattle.cs_base.proofs.Many.{passes_on, passes_not, passed_all}
use Rattle.cs_tx_value.proofs.lists.skip_many.Goals as goal

pub returns-in_err-skip : goal.returns-in_err-skip
returns-in_err-skip g c =
    let p = err_from_is_err_and c.from_residual.result c.from_residual.ensures.1 in
    rw (p.1, p.2) (c.in_err-skip.ensures.0, passes_not g.T.Encoded.found_at c.args.count c.loop.counter c.loop.cursor (behind (many_at g.T.Encoded.found_at c.args.count c.args.cursor.now)) c.loop-test.true c.in_err-skip.ensures.1 c.loop.invariant)

pub loop-preserved : goal.loop-preserved
loop-preserved g c = passes_on g.T.Encoded.found_at c.args.count c.loop.counter c.loop.cursor c.skip.new.cursor (behind (many_at g.T.Encoded.found_at c.args.count c.args.cursor.now)) c.loop-test.true c.in_ok-skip.ensures c.loop.invariant

pub returns : goal.returns
returns g c = passed_all g.T.Encoded.found_at c.args.count c.loop.counter c.loop.cursor (behind (many_at g.T.Encoded.found_at c.args.count c.args.cursor.now)) c.loop-test.false c.loop.invariant
