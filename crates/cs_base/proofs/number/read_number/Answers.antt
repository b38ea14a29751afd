use Rattle.std.proofs.Common.{sym}
use Rattle.cs_base.proofs.Numbers.{number_none, decimal_utf8, parsed_ok, parsed_err, spare_none}
use Rattle.cs_base.proofs.number.read_number.Goals as goal

pub returns-then-has_spare_front : goal.returns-then-has_spare_front
returns-then-has_spare_front c = spare_none c.args.field.now c.if-has_spare_front.ensures

pub returns-in_default : goal.returns-in_default
returns-in_default c =
    number_none c.args.field.now (λ is. c.in_default.ensures.cases.0 (decimal_utf8 c.args.field.now is))

pub returns-in-Ok-parse : goal.returns-in-Ok-parse
returns-in-Ok-parse c = parsed_ok _ c.in-Ok.text.now _ c.in-Ok.ensures.cases.0 (sym c.if-has_spare_front.ensures) c.in-Ok-parse.ensures.value.0

pub returns-in-Err : goal.returns-in-Err
returns-in-Err c = parsed_err _ c.in-Ok.text.now c.in-Ok.ensures.cases.0 (sym c.if-has_spare_front.ensures) c.in-Err.ensures.value.0
