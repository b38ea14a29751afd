use Rattle.std.proofs.Common.{◌≡◌, sym, ◌∙◌}
use Rattle.std.specs.Prelude.{Result, Ok}
use Rattle.cs_text.specs.declared.cause.Refusal.{Refusal}
use Rattle.cs_verify.specs.declared.claim.Claim.{Claim}
use Rattle.cs_verify.proofs.Shown.{each_exactly}
use Rattle.cs_verify.proofs.judging.judge.Goals as goal

one_claim : (a b : Claim) (said : Result Claim Refusal) → said ≡ Ok a → said ≡ Ok b → a ≡ b
one_claim a b said first second =
    let both : Ok a ≡ Ok b = sym first ∙ second in
    cc

pub returns-in-Ok-clause-shown : goal.returns-in-Ok-clause-shown
returns-in-Ok-clause-shown c = λ claim is.
    each_exactly c.judge_claim.result c.in-Ok.claim claim
    (one_claim c.in-Ok.claim claim _ c.in-Ok.ensures.given is)
    c.judge_claim.ensures.verdict
