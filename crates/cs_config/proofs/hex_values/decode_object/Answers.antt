use Rattle.std.proofs.Common.{sym, arith}
use Rattle.cs_config.proofs.Objects.{object_found, object_missing}
use Rattle.cs_config.proofs.hex_values.decode_object.Goals as goal

pub returns-in-Ok-clause-given : goal.returns-in-Ok-clause-given
returns-in-Ok-clause-given c =
    sym (object_found c.args.bytes.now c.in-Ok.object c.in-Ok.ensures.found.0 c.in-Ok.ensures.found.1)

pub returns-in-Err-BadForm-clause-given : goal.returns-in-Err-BadForm-clause-given
returns-in-Err-BadForm-clause-given c =
    sym (object_missing c.args.bytes.now (λ i. omega (arith, c.type_inv.bytes i)) (λ object fits same. let h = c.in-Err-BadForm.ensures.only object fits same in cc))

pub returns-in-Err-TooLong-clause-given : goal.returns-in-Err-TooLong-clause-given
returns-in-Err-TooLong-clause-given c =
    sym (object_missing c.args.bytes.now (λ i. omega (arith, c.type_inv.bytes i)) (λ object fits same. let h = c.in-Err-TooLong.ensures.only object fits same in cc))
