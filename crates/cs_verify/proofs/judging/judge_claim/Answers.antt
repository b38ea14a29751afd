use Rattle.cs_verify.proofs.Shown.{shown_tells}
use Rattle.cs_verify.proofs.judging.judge_claim.Goals as goal

pub returns-then-branch-clause-tells : goal.returns-then-branch-clause-tells
returns-then-branch-clause-tells c =
    shown_tells c.args.claim.head c.args.claim.proof c.requires
    (c.in_ok-shows.ensures.0 c.if-branch.true)
