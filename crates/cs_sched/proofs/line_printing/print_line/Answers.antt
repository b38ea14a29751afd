use Rattle.std.proofs.Common.{◌++◌}
use Rattle.std.proofs.lemmas.Result.{on_ok_weaker}
use Rattle.cs_sched.proofs.Texts.{field_more, line_done}
use Rattle.cs_sched.proofs.line_printing.print_line.Goals as goal

pub loop-field-preserved : goal.loop-field-preserved
loop-field-preserved c =
    field_more c.args.fields.now c.loop-field.field-index _ (c.args.out.now ++ c.args.word.now) c.loop-field.out c.u8.new.self c.take-in-loop-field.new.self c.loop-field-test.true c.loop-field.invariant
    c.in_ok-u8.ensures.ok c.in_ok-take-2.ensures.ok

pub returns-clause-ok : goal.returns-clause-ok
returns-clause-ok c =
    on_ok_weaker c.u8-2.result (λ ended. line_done c.args.word.now c.args.out.now c.loop-field.out c.u8-2.new.self c.args.fields.now c.loop-field.field-index c.loop-field-test.false c.loop-field.invariant ended)
    c.u8-2.ensures.ok
