use Rattle.std.proofs.Common.{ℕ, List, Err, inl, ap, refl, sym, subst}
use Rattle.cs_base.specs.Answers.{Answers}
use Rattle.cs_io.specs.Answers.{read_fault_answer}
use Rattle.cs_io.proofs.Closings.{closed}
use Rattle.cs_io.proofs.Sources.{not-given, gives-whole}
use Rattle.cs_cli.specs.Examined.{most_in, examined_answer}
use Rattle.cs_cli.proofs.Subjects.{gives-within}
use Rattle.cs_cli.proofs.examining.examine_source.Goals as goal

pub returns-in-Ok-clause-gives : goal.returns-in-Ok-clause-gives
returns-in-Ok-clause-gives g c =
    gives-within _ (most_in c.args.subject) (examined_answer c.args.subject) _ _ _ _ _ c.in-Ok.text.items c.examine.result c.most_in.ensures.is c.in-Ok.ensures.text
    (subst (λ (text : List ℕ). Answers (examined_answer c.args.subject text) (g.K.Sink.written c.args.output.now) (g.K.Sink.written c.examine.new.output) c.examine.result) c.deref.ensures.value c.examine.ensures.answers)

pub returns-in-Err-Failed-clause-gives : goal.returns-in-Err-Failed-clause-gives
returns-in-Err-Failed-clause-gives g c =
    inl (
      c.in-Err-Failed.ensures.cause.cause (ap Err c.in-Err-Failed.field-0-is),
      subst (λ (status : ℕ). Answers read_fault_answer (g.K.Sink.written c.args.output.now) (g.K.Sink.written c.print.new.output) status) (sym c.closing.ensures)
          (closed read_fault_answer c.print.result _ _ c.print.ensures.done c.print.ensures.part),
    )

pub returns-in-Err-Memory-clause-gives : goal.returns-in-Err-Memory-clause-gives
returns-in-Err-Memory-clause-gives g c = not-given (most_in c.args.subject) (examined_answer c.args.subject) _ _ _ _

pub returns-in-Ok-clause-whole : goal.returns-in-Ok-clause-whole
returns-in-Ok-clause-whole g c = λ reads writes.
    gives-whole (most_in c.args.subject) (examined_answer c.args.subject) _ _ _ _ _ c.examine.result (returns-in-Ok-clause-gives g c) reads (λ six. writes (c.examine.ensures.write_fault.cause six))

pub returns-in-Err-Failed-clause-whole : goal.returns-in-Err-Failed-clause-whole
returns-in-Err-Failed-clause-whole g c = λ reads writes. absurd (reads (c.in-Err-Failed.ensures.cause.cause (ap Err c.in-Err-Failed.field-0-is)))

pub returns-in-Err-Memory-clause-whole : goal.returns-in-Err-Memory-clause-whole
returns-in-Err-Memory-clause-whole g c = λ reads writes other. absurd (other refl)
