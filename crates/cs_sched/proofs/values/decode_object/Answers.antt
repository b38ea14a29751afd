use Rattle.std.proofs.Common.{refl, arith}
use Rattle.cs_sched.proofs.Objects.{object_found, object_missing}
use Rattle.cs_sched.proofs.values.decode_object.Goals as goal

pub returns-in-Ok-clause-value : goal.returns-in-Ok-clause-value
returns-in-Ok-clause-value c =
    rw (object_found c.args.bytes.now c.in-Ok.object c.in-Ok.ensures.found.0 c.in-Ok.ensures.found.1) refl

pub returns-in-Err-BadForm-clause-value : goal.returns-in-Err-BadForm-clause-value
returns-in-Err-BadForm-clause-value c =
    rw (object_missing c.args.bytes.now (λ i. omega (arith, c.type_inv.bytes i)) (λ object fits same. let h = c.in-Err-BadForm.ensures.only object fits same in cc)) refl

pub returns-in-Err-TooLong-clause-value : goal.returns-in-Err-TooLong-clause-value
returns-in-Err-TooLong-clause-value c =
    rw (object_missing c.args.bytes.now (λ i. omega (arith, c.type_inv.bytes i)) (λ object fits same. let h = c.in-Err-TooLong.ensures.only object fits same in cc)) refl
