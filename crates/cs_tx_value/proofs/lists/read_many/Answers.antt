use Rattle.std.proofs.lemmas.Result.{err_from_is_err_and}
use Rattle.cs_base.specs.Fields.{many_at}
use Rattle.cs_base.proofs.Many.{goes_on, is_done}
use Rattle.cs_tx_value.proofs.Loop.{ends}
use Rattle.cs_tx_value.proofs.lists.read_many.Goals as goal

pub returns-in_err-item : goal.returns-in_err-item
returns-in_err-item g c =
    let p = err_from_is_err_and c.from_residual.result c.from_residual.ensures.1 in
    rw (p.1, p.2) (ends c.in_err-item.field-0.0 g.T.Encoded.found_at c.loop.items c.args.count c.loop.counter c.loop.cursor (many_at g.T.Encoded.found_at c.args.count c.args.cursor.now) c.loop-test.true c.in_err-item.ensures c.loop.invariant)

pub loop-preserved : goal.loop-preserved
loop-preserved g c = rw c.in_ok-push.ensures.ok (goes_on g.T.Encoded.found_at c.loop.items c.args.count c.loop.counter c.loop.cursor c.in_ok-item.item c.read.new.cursor (many_at g.T.Encoded.found_at c.args.count c.args.cursor.now) c.loop-test.true c.in_ok-item.ensures c.loop.invariant)

pub returns : goal.returns
returns g c = is_done g.T.Encoded.found_at c.loop.items c.args.count c.loop.counter c.loop.cursor (many_at g.T.Encoded.found_at c.args.count c.args.cursor.now) c.loop-test.false c.loop.invariant
