use Rattle.std.proofs.Common.{refl, arith}
use Rattle.cs_audit_dump.proofs.Leaves.{leaf_found, leaf_missing}
use Rattle.cs_audit_dump.proofs.lines.decode_leaf.Goals as goal

pub returns-in-Ok : goal.returns-in-Ok
returns-in-Ok c =
    rw (leaf_found c.args.bytes.now c.in-Ok.leaf c.in-Ok.ensures.found.0 c.in-Ok.ensures.found.1) refl

pub returns-in-Err-BadForm : goal.returns-in-Err-BadForm
returns-in-Err-BadForm c =
    rw (leaf_missing c.args.bytes.now (λ i. omega (arith, c.type_inv.bytes i)) (λ leaf fits same. let h = c.in-Err-BadForm.ensures.only leaf fits same in cc)) refl

pub returns-in-Err-TooLong : goal.returns-in-Err-TooLong
returns-in-Err-TooLong c =
    rw (leaf_missing c.args.bytes.now (λ i. omega (arith, c.type_inv.bytes i)) (λ leaf fits same. let h = c.in-Err-TooLong.ensures.only leaf fits same in cc)) refl
