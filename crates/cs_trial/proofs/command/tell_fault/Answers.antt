use Rattle.std.proofs.Common.{inl, inr, refl, ◌∙◌, ap}
use Rattle.cs_io.specs.Answers.{closing_status}
use Rattle.cs_deploy.proofs.Answered.{keeps}
use Rattle.cs_trial.specs.Command.{faulted_answer}
use Rattle.cs_trial.proofs.Closed.{fault-other, printed-answers, printed-other, printed-failed}
use Rattle.cs_trial.proofs.command.tell_fault.Goals as goal

pub returns-in-Ok-clause-tells : goal.returns-in-Ok-clause-tells
returns-in-Ok-clause-tells g c =
    let told = faulted_answer c.args.text.now c.args.fault in
    inl (
      told,
      (c.args.fault, c.requires, refl),
      printed-answers told c.print.result c.closing.result (c.closing.ensures ∙ ap (closing_status c.print.result) c.status.ensures) c.deref.result.now _ _
          (c.deref.ensures.value ∙ c.in-Ok.ensures) c.print.ensures.done c.print.ensures.part,
    )

pub returns-in-Ok-clause-only : goal.returns-in-Ok-clause-only
returns-in-Ok-clause-only g c =
    let told = faulted_answer c.args.text.now c.args.fault in
    let ends = c.closing.ensures ∙ ap (closing_status c.print.result) c.status.ensures in (
      printed-other told c.print.result c.closing.result ends 2 (fault-other c.args.fault 2 ((λ is. absurd (cc)), (λ is. absurd (cc)), (λ is. absurd (cc)), (λ is. absurd (cc)))) (λ is. absurd (cc)) (λ is. absurd (cc)),
      printed-other told c.print.result c.closing.result ends 5 (fault-other c.args.fault 5 ((λ is. absurd (cc)), (λ is. absurd (cc)), (λ is. absurd (cc)), (λ is. absurd (cc)))) (λ is. absurd (cc)) (λ is. absurd (cc)),
    )

pub returns-in-Ok-clause-write_fault : goal.returns-in-Ok-clause-write_fault
returns-in-Ok-clause-write_fault g c = record {
  later = c.print.ensures.cause.later;
  cause = λ six. c.print.ensures.cause.cause (printed-failed (faulted_answer c.args.text.now c.args.fault) c.print.result c.closing.result
      (c.closing.ensures ∙ ap (closing_status c.print.result) c.status.ensures)
      (fault-other c.args.fault 6 ((λ is. absurd (cc)), (λ is. absurd (cc)), (λ is. absurd (cc)), (λ is. absurd (cc)))) six);
}

pub returns-in-Err-clause-tells : goal.returns-in-Err-clause-tells
returns-in-Err-clause-tells g c = inr (refl, keeps (g.K.Sink.written c.args.out.now))
