-- What is shown of a claim.
use Rattle.std.proofs.Common.{inl, inr, sym, subst}
use Rattle.std.proofs.lemmas.Bool.{cases_Bool, cond-false}
use Rattle.cs_base.specs.declared.version.Version.TheVariants.{One}
use Rattle.cs_tx_types.specs.Log.{ProofFits}
use Rattle.cs_verify.specs.declared.claim.Claim.{Claim}
use Rattle.cs_verify.specs.declared.judging.Verdict.{Verdict}
use Rattle.cs_verify.specs.declared.judging.Verdict.TheVariants.{Shown, NotShown}
use Rattle.cs_verify.specs.Verdicts.{is_shown, verdict_on, VerdictTells}
use Rattle.cs_verify.proofs.Shown.{test_shows, verdict_shown, shown_tells}

-- a proof that is shown tells what the checkpoint with the head covers
pub claim-tells : (claim : Claim) → ProofFits One claim.proof → VerdictTells claim.head (verdict_on claim)
claim-tells claim fits = elim (cases_Bool (is_shown claim.head claim.proof)) [
  | inl passed ↦
      let shows = test_shows claim.head claim.proof passed in
      subst (λ (verdict : Verdict). VerdictTells claim.head verdict) (sym (verdict_shown claim shows)) (shown_tells claim.head claim.proof fits shows)
  | inr failed ↦
      subst (λ (verdict : Verdict). VerdictTells claim.head verdict) (sym (cond-false (is_shown claim.head claim.proof) (Shown claim.proof) NotShown failed)) tt
]
