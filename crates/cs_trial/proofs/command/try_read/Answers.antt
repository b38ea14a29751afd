use Rattle.std.proofs.Common.{inl, inr, refl}
use Rattle.cs_deploy.proofs.Answered.{keeps}
use Rattle.cs_trial.specs.Trials.{answer_of}
use Rattle.cs_trial.proofs.Closed.{cases-other, printed-answers, printed-other, printed-failed}
use Rattle.cs_trial.proofs.command.try_read.Goals as goal

pub returns-in-Ok-clause-tells : goal.returns-in-Ok-clause-tells
returns-in-Ok-clause-tells g c =
    inl (
      answer_of c.in-Ok.trial,
      c.in-Ok.ensures,
      printed-answers (answer_of c.in-Ok.trial) c.print.result c.closing.result c.closing.ensures c.deref.result.now _ _ c.deref.ensures.value c.print.ensures.done c.print.ensures.part,
    )

pub returns-in-Ok-clause-only : goal.returns-in-Ok-clause-only
returns-in-Ok-clause-only g c =
    let a = c.args.checked.now in
    let told = answer_of c.in-Ok.trial in (
      printed-other told c.print.result c.closing.result c.closing.ensures 2
          (cases-other a c.args.text.now c.args.cases.now told 2 ((λ is. absurd (cc)), (λ is. absurd (cc)), (λ is. absurd (cc)), (λ is. absurd (cc))) c.in-Ok.ensures)
          (λ is. absurd (cc)) (λ is. absurd (cc)),
      printed-other told c.print.result c.closing.result c.closing.ensures 5
          (cases-other a c.args.text.now c.args.cases.now told 5 ((λ is. absurd (cc)), (λ is. absurd (cc)), (λ is. absurd (cc)), (λ is. absurd (cc))) c.in-Ok.ensures)
          (λ is. absurd (cc)) (λ is. absurd (cc)),
    )

pub returns-in-Ok-clause-write_fault : goal.returns-in-Ok-clause-write_fault
returns-in-Ok-clause-write_fault g c = record {
  later = c.print.ensures.cause.later;
  cause = λ six. c.print.ensures.cause.cause (printed-failed (answer_of c.in-Ok.trial) c.print.result c.closing.result c.closing.ensures
      (cases-other c.args.checked.now c.args.text.now c.args.cases.now (answer_of c.in-Ok.trial) 6 ((λ is. absurd (cc)), (λ is. absurd (cc)), (λ is. absurd (cc)), (λ is. absurd (cc))) c.in-Ok.ensures) six);
}

pub returns-in-Err-clause-tells : goal.returns-in-Err-clause-tells
returns-in-Err-clause-tells g c = inr (refl, keeps (g.K.Sink.written c.args.out.now))
