use Rattle.std.proofs.Common.{inl, inr, refl, subst}
use Rattle.cs_base.specs.Answers.{Answer, Answers}
use Rattle.cs_cli.specs.Reports.{report_answer}
use Rattle.cs_cli.proofs.Reported.{told-answers, reported-other, reported-failed}
use Rattle.cs_cli.proofs.Sources.{kept}
use Rattle.cs_cli.proofs.telling.tell.Goals as goal

pub returns-in-Ok-clause-tells : goal.returns-in-Ok-clause-tells
returns-in-Ok-clause-tells g c =
    inl (
      report_answer c.in-Ok.report,
      c.in-Ok.ensures.report,
      told-answers c.args.mode c.args.text.now c.in-Ok.report c.print.result c.closing.result c.closing.ensures
          c.deref.result.now _ _ c.deref.ensures.value c.print.ensures.done c.print.ensures.part,
    )

pub returns-in-Ok-clause-accepted : goal.returns-in-Ok-clause-accepted
returns-in-Ok-clause-accepted g c = λ other contract costs spelled accepted.
    subst (λ (answer : Answer). Answers answer (g.K.Sink.written c.args.output.now) (g.K.Sink.written c.print.new.output) c.closing.result)
    (c.in-Ok.ensures.only contract costs spelled accepted)
    (told-answers c.args.mode c.args.text.now c.in-Ok.report c.print.result c.closing.result c.closing.ensures
    c.deref.result.now _ _ c.deref.ensures.value c.print.ensures.done c.print.ensures.part)

pub returns-in-Ok-clause-only : goal.returns-in-Ok-clause-only
returns-in-Ok-clause-only g c = (
  reported-other c.args.mode c.args.text.now c.in-Ok.report c.print.result c.closing.result c.closing.ensures 2 c.in-Ok.ensures.report
      (λ is. absurd (cc)) (λ is. absurd (cc)) (λ is. absurd (cc)) (λ is. absurd (cc)) (λ is. absurd (cc)),
  reported-other c.args.mode c.args.text.now c.in-Ok.report c.print.result c.closing.result c.closing.ensures 5 c.in-Ok.ensures.report
      (λ is. absurd (cc)) (λ is. absurd (cc)) (λ is. absurd (cc)) (λ is. absurd (cc)) (λ is. absurd (cc)),
)

pub returns-in-Ok-clause-write_fault : goal.returns-in-Ok-clause-write_fault
returns-in-Ok-clause-write_fault g c = record {
  later = c.print.ensures.cause.later;
  cause = λ six. c.print.ensures.cause.cause (reported-failed c.args.mode c.args.text.now c.in-Ok.report c.print.result c.closing.result c.closing.ensures c.in-Ok.ensures.report six);
}

pub returns-in-Err-clause-tells : goal.returns-in-Err-clause-tells
returns-in-Err-clause-tells g c = inr (refl, kept (g.K.Sink.written c.args.output.now))

pub returns-in-Err-clause-accepted : goal.returns-in-Err-clause-accepted
returns-in-Err-clause-accepted g c = λ other. absurd (other refl)
