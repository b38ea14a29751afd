use Rattle.std.proofs.Common.{inl, inr, refl}
use Rattle.cs_transact.specs.Command.{answer_told}
use Rattle.cs_transact.proofs.Closed.{kept, answer-other, printed-answers, printed-other, printed-failed}
use Rattle.cs_transact.proofs.command.tell_read.Goals as goal

pub returns-in-Ok-clause-told : goal.returns-in-Ok-clause-told
returns-in-Ok-clause-told g c =
    inl (
      answer_told c.in-Ok.told,
      c.in-Ok.ensures,
      printed-answers (answer_told c.in-Ok.told) c.print.result c.closing.result c.closing.ensures c.deref.result.now _ _ c.deref.ensures.value c.print.ensures.done c.print.ensures.part,
    )

pub returns-in-Ok-clause-only : goal.returns-in-Ok-clause-only
returns-in-Ok-clause-only g c =
    let told = answer_told c.in-Ok.told in (
      printed-other told c.print.result c.closing.result c.closing.ensures 2
          (answer-other c.args.number c.args.text.now told 2 ((λ is. absurd (cc)), (λ is. absurd (cc)), (λ is. absurd (cc))) c.in-Ok.ensures)
          (λ is. absurd (cc)) (λ is. absurd (cc)),
      printed-other told c.print.result c.closing.result c.closing.ensures 5
          (answer-other c.args.number c.args.text.now told 5 ((λ is. absurd (cc)), (λ is. absurd (cc)), (λ is. absurd (cc))) c.in-Ok.ensures)
          (λ is. absurd (cc)) (λ is. absurd (cc)),
    )

pub returns-in-Ok-clause-write_fault : goal.returns-in-Ok-clause-write_fault
returns-in-Ok-clause-write_fault g c = record {
  later = c.print.ensures.cause.later;
  cause = λ six. c.print.ensures.cause.cause (printed-failed (answer_told c.in-Ok.told) c.print.result c.closing.result c.closing.ensures
      (answer-other c.args.number c.args.text.now (answer_told c.in-Ok.told) 6 ((λ is. absurd (cc)), (λ is. absurd (cc)), (λ is. absurd (cc))) c.in-Ok.ensures) six);
}

pub returns-in-Err-clause-told : goal.returns-in-Err-clause-told
returns-in-Err-clause-told g c = inr (refl, kept (g.K.Sink.written c.args.out.now))
