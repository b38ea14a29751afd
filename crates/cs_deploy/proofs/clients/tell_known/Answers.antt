use Rattle.std.proofs.Common.{ℕ, sym, subst, ◌∙◌}
use Rattle.cs_base.specs.Answers.{Answers}
use Rattle.cs_base.proofs.Outcomes.{nothing_printed}
use Rattle.cs_client.specs.Lines.{known_line}
use Rattle.cs_deploy.specs.Client.{known_answer}
use Rattle.cs_deploy.proofs.Answered.{printed-as}
use Rattle.cs_deploy.proofs.Decided.{known-other}
use Rattle.cs_deploy.proofs.clients.tell_known.Goals as goal

pub returns-in-Ok-clause-answers : goal.returns-in-Ok-clause-answers
returns-in-Ok-clause-answers g c =
    subst (λ (n : ℕ). Answers (record { status = n; printed = known_line c.args.known }) (g.K.Sink.written c.args.out.now) (g.K.Sink.written c.tell.new.out) c.tell.result)
    c.status_of.ensures
    (printed-as c.status_of.result _ _ _ _ c.tell.result (c.as_bytes.ensures.value ∙ c.in-Ok.ensures) c.tell.ensures.answers)

pub returns-in-Ok-clause-cause : goal.returns-in-Ok-clause-cause
returns-in-Ok-clause-cause g c = record {
  later = c.tell.ensures.faults;
  cause = c.tell.ensures.cause (λ is. known-other c.args.known 6 (λ p. absurd (cc)) (λ p. absurd (cc)) (sym c.status_of.ensures ∙ is));
}

pub returns-in-Err-clause-answers : goal.returns-in-Err-clause-answers
returns-in-Err-clause-answers g c = nothing_printed (known_answer c.args.known) _
