use Rattle.std.proofs.Common.{None}
use Rattle.std.proofs.lemmas.Result.{err_from_is_err_and}
use Rattle.cs_base.specs.Fields.{behind}
use Rattle.cs_wire_message.specs.Reading.{rising_at}
use Rattle.cs_wire_message.proofs.Echoes.{passes_on, passes_not, passed_all}
use Rattle.cs_wire_message.proofs.rising.skip_rising.Goals as goal

pub returns-in_err-echo : goal.returns-in_err-echo
returns-in_err-echo c =
    let p = err_from_is_err_and c.from_residual.result c.from_residual.ensures.1 in
    rw (p.1, p.2) (c.in_err-echo.ensures.0, passes_not c.args.view c.loop.last c.args.count c.loop.counter c.loop.cursor (behind (rising_at c.args.view None c.args.count c.args.cursor.now)) c.loop-test.true c.in_err-echo.ensures.1 c.loop.invariant)

pub loop-preserved : goal.loop-preserved
loop-preserved c = passes_on c.args.view c.loop.last c.args.count c.loop.counter c.loop.cursor c.in_ok-echo.echo c.next_echo.new.cursor (behind (rising_at c.args.view None c.args.count c.args.cursor.now)) c.loop-test.true c.in_ok-echo.ensures c.loop.invariant

pub returns : goal.returns
returns c = passed_all c.args.view c.loop.last c.args.count c.loop.counter c.loop.cursor (behind (rising_at c.args.view None c.args.count c.args.cursor.now)) c.loop-test.false c.loop.invariant
