-- Which proof bytes encode, and that they encode none.
use Rattle.std.specs.Prelude.{◌≡◌, ◌≢◌, List, ℕ, Option, Some, None, Ok, Err}
use Rattle.std.specs.Option.{ok_or}
use Rattle.std.proofs.Common.{◌∙◌, ap, refl}
use Rattle.cs_base.specs.Fields.{IsBytes, whole_at}
use Rattle.cs_base.proofs.Forms.{whole-takes, whole-again}
use Rattle.cs_tx_types.specs.declared.proof.Proof.{Proof}
use Rattle.cs_base.specs.declared.version.Version.TheVariants.{One}
use Rattle.cs_tx_types.specs.Log.{proof_encoding, ProofFits, proof_at}
use Rattle.cs_tx_types.specs.laws.Log.{proof_form}
use Rattle.cs_text.specs.declared.cause.Cause.{Cause}
use Rattle.cs_text.specs.declared.cause.Cause.TheVariants as cause
use Rattle.cs_verify.specs.Forms.{encoded_proof}

pub proof_found : (bytes : List ℕ) (proof : Proof) → ProofFits One proof → bytes ≡ proof_encoding One proof →
    encoded_proof bytes ≡ Ok proof
proof_found bytes proof fits is =
    ap (λ (found : Option Proof). ok_or found cause.Object)
    (ap (whole_at (proof_at One)) is ∙ whole-again (proof_encoding One) (ProofFits One) (proof_at One) (proof_form One) proof fits)

pub proof_missing : (bytes : List ℕ) → IsBytes bytes →
    ((proof : Proof) → ProofFits One proof → bytes ≢ proof_encoding One proof) →
    encoded_proof bytes ≡ Err cause.Object
proof_missing bytes fits none = by (whole_at (proof_at One) bytes) refl
  where
    by : (found : Option Proof) → whole_at (proof_at One) bytes ≡ found →
        encoded_proof bytes ≡ Err cause.Object
    by None is = ap (λ (found : Option Proof). ok_or found cause.Object) is
    by (Some proof) is =
        let (proof_fits, same) =
        whole-takes (proof_encoding One) (ProofFits One) (proof_at One) (proof_form One) bytes proof fits is in
        absurd (none proof proof_fits same)
