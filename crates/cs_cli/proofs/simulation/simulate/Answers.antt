use Rattle.std.proofs.Common.{refl}
use Rattle.cs_base.proofs.Outcomes.{nothing_printed}
use Rattle.cs_cli.specs.Simulated.{simulate_answer}
use Rattle.cs_cli.proofs.Ended.{simulate-ends, printed-answers, printed-other, printed-failed, answers-whole}
use Rattle.cs_cli.proofs.simulation.simulate.Goals as goal

pub returns-in-Ok-clause-answers : goal.returns-in-Ok-clause-answers
returns-in-Ok-clause-answers g c =
    printed-answers (simulate_answer c.args.number c.args.size) c.in-Ok.report c.print.result c.closing.result c.in-Ok.ensures c.closing.ensures
    c.as_bytes.result.now _ _ c.as_bytes.ensures.value c.print.ensures.done c.print.ensures.part

pub returns-in-Ok-clause-whole : goal.returns-in-Ok-clause-whole
returns-in-Ok-clause-whole g c = λ writes.
    answers-whole (simulate_answer c.args.number c.args.size) _ _ c.closing.result (returns-in-Ok-clause-answers g c)
    (λ six. writes (c.print.ensures.cause.cause
    (printed-failed (simulate_answer c.args.number c.args.size) c.in-Ok.report c.print.result c.closing.result c.in-Ok.ensures c.closing.ensures (simulate-ends c.args.number c.args.size) six)))

pub returns-in-Ok-clause-ends : goal.returns-in-Ok-clause-ends
returns-in-Ok-clause-ends g c = simulate-ends c.args.number c.args.size

pub returns-in-Ok-clause-only : goal.returns-in-Ok-clause-only
returns-in-Ok-clause-only g c = (
  printed-other (simulate_answer c.args.number c.args.size) c.in-Ok.report c.print.result c.closing.result c.in-Ok.ensures c.closing.ensures 2 (simulate-ends c.args.number c.args.size)
      (λ is. absurd (cc)) (λ is. absurd (cc)) (λ is. absurd (cc)) (λ is. absurd (cc)) (λ is. absurd (cc)),
  printed-other (simulate_answer c.args.number c.args.size) c.in-Ok.report c.print.result c.closing.result c.in-Ok.ensures c.closing.ensures 5 (simulate-ends c.args.number c.args.size)
      (λ is. absurd (cc)) (λ is. absurd (cc)) (λ is. absurd (cc)) (λ is. absurd (cc)) (λ is. absurd (cc)),
)

pub returns-in-Ok-clause-write_fault : goal.returns-in-Ok-clause-write_fault
returns-in-Ok-clause-write_fault g c = record {
  later = c.print.ensures.cause.later;
  cause = λ six. c.print.ensures.cause.cause
      (printed-failed (simulate_answer c.args.number c.args.size) c.in-Ok.report c.print.result c.closing.result c.in-Ok.ensures c.closing.ensures (simulate-ends c.args.number c.args.size) six);
}

pub returns-in-Err-clause-answers : goal.returns-in-Err-clause-answers
returns-in-Err-clause-answers g c = nothing_printed (simulate_answer c.args.number c.args.size) (g.K.Sink.written c.args.output.now)

pub returns-in-Err-clause-whole : goal.returns-in-Err-clause-whole
returns-in-Err-clause-whole g c = λ writes other. absurd (other refl)

pub returns-in-Err-clause-ends : goal.returns-in-Err-clause-ends
returns-in-Err-clause-ends g c = simulate-ends c.args.number c.args.size
