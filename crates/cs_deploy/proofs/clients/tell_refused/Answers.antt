use Rattle.std.proofs.Common.{◌∙◌}
use Rattle.cs_base.proofs.Outcomes.{nothing_printed}
use Rattle.cs_deploy.specs.Client.{refused_answer}
use Rattle.cs_deploy.proofs.Answered.{printed-as}
use Rattle.cs_deploy.proofs.clients.tell_refused.Goals as goal

pub returns-in-Ok-clause-answers : goal.returns-in-Ok-clause-answers
returns-in-Ok-clause-answers g c =
    printed-as 3 _ _ _ _ c.tell.result (c.as_bytes.ensures.value ∙ c.in-Ok.ensures) c.tell.ensures.answers

pub returns-in-Ok-clause-cause : goal.returns-in-Ok-clause-cause
returns-in-Ok-clause-cause g c = record { later = c.tell.ensures.faults; cause = c.tell.ensures.cause (λ is. absurd (cc)) }

pub returns-in-Err-clause-answers : goal.returns-in-Err-clause-answers
returns-in-Err-clause-answers g c = nothing_printed (refused_answer c.args.cause) _
