use Rattle.std.proofs.Common.{arith}
use Rattle.cs_verify.proofs.Decoded.{proof_found, proof_missing}
use Rattle.cs_verify.proofs.values.decode_proof.Goals as goal

pub returns-in-Ok : goal.returns-in-Ok
returns-in-Ok c = proof_found c.args.bytes.now c.in-Ok.proof c.in-Ok.ensures.found.0 c.in-Ok.ensures.found.1

pub returns-in-Err-BadForm : goal.returns-in-Err-BadForm
returns-in-Err-BadForm c =
    proof_missing c.args.bytes.now (λ i. omega (arith, c.type_inv.bytes i))
    (λ proof fits same. let h = c.in-Err-BadForm.ensures.only proof fits same in cc)

pub returns-in-Err-TooLong : goal.returns-in-Err-TooLong
returns-in-Err-TooLong c =
    proof_missing c.args.bytes.now (λ i. omega (arith, c.type_inv.bytes i))
    (λ proof fits same. let h = c.in-Err-TooLong.ensures.only proof fits same in cc)
