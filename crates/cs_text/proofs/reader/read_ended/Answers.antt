use Rattle.std.proofs.Common.{◌≡◌, Ok}
use Rattle.std.proofs.lemmas.Result.{err_from_is_err_and}
use Rattle.std.specs.Str.Lines.{strip_carriage_return}
use Rattle.cs_base.specs.Lines.{fields_of}
use Rattle.cs_text.specs.Text.{line_step, then_lines}
use Rattle.cs_text.specs.Reading.{TextFails}
use Rattle.cs_text.proofs.Reading.{at_next, fails_at, then_ok}
use Rattle.cs_text.proofs.reader.read_ended.Goals as goal

pub returns-in_err-take_line : goal.returns-in_err-take_line
returns-in_err-take_line g c =
    let form = g.R.LineReader.form in
    let error = c.in_err-take_line.field-0.0 in
    let step = line_step form c.loop-line.number c.loop-line.reader (fields_of (strip_carriage_return c.in-Some.line.now)) in
    let fails : TextFails error (then_lines c.loop-line.number step Ok) = rw c.strip_return.ensures at c.in_err-take_line.ensures in
    let passed = err_from_is_err_and c.from_residual.result c.from_residual.ensures.1 in
    rw (passed.1, passed.2) (fails_at form c.args.text.now c.loop-line.reader c.loop-line.number c.loop-line.rest.now c.loop-line.invariant error c.in-Some.line.now c.in-Some.after.now c.in-Some.ensures.found fails)

pub loop-line-preserved : goal.loop-line-preserved
loop-line-preserved g c =
    let form = g.R.LineReader.form in
    let step = line_step form c.loop-line.number c.loop-line.reader (fields_of (strip_carriage_return c.in-Some.line.now)) in
    let is : then_lines c.loop-line.number step Ok ≡ Ok c.take_line.new.reader = rw c.strip_return.ensures at c.in_ok-take_line.ensures in
    at_next form c.args.text.now c.loop-line.reader c.loop-line.number c.loop-line.rest.now c.loop-line.invariant c.take_line.new.reader c.in-Some.line.now c.in-Some.after.now c.in-Some.ensures.found c.in-Some.ensures.shorter (then_ok _ _ _ is)
