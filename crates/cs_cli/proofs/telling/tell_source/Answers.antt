use Rattle.std.proofs.Common.{ℕ, List, Err, inl, ap, refl, sym, subst}
use Rattle.cs_base.specs.Answers.{Answers}
use Rattle.cs_io.specs.Answers.{read_fault_answer}
use Rattle.cs_io.proofs.Closings.{closed}
use Rattle.cs_cli.specs.Answers.{TellsOf, TellsContractAccepted}
use Rattle.cs_cli.proofs.Sources.{tells-text, untold, tells-whole}
use Rattle.cs_cli.proofs.telling.tell_source.Goals as goal

pub returns-in-Ok-clause-tells : goal.returns-in-Ok-clause-tells
returns-in-Ok-clause-tells g c =
    tells-text c.args.mode _ _ _ _ _ c.in-Ok.text.items c.tell.result c.in-Ok.ensures.text
    (subst (λ (text : List ℕ). TellsOf c.args.mode text (g.K.Sink.written c.args.output.now) (g.K.Sink.written c.tell.new.output) c.tell.result) c.deref.ensures.value c.tell.ensures.tells)
    (λ other. subst (λ (text : List ℕ). TellsContractAccepted c.args.mode text (g.K.Sink.written c.args.output.now) (g.K.Sink.written c.tell.new.output) c.tell.result) c.deref.ensures.value (c.tell.ensures.accepted other))

pub returns-in-Err-Failed-clause-tells : goal.returns-in-Err-Failed-clause-tells
returns-in-Err-Failed-clause-tells g c =
    inl (
      c.in-Err-Failed.ensures.cause.cause (ap Err c.in-Err-Failed.field-0-is),
      subst (λ (status : ℕ). Answers read_fault_answer (g.K.Sink.written c.args.output.now) (g.K.Sink.written c.print.new.output) status) (sym c.closing.ensures)
          (closed read_fault_answer c.print.result _ _ c.print.ensures.done c.print.ensures.part),
    )

pub returns-in-Err-Memory-clause-tells : goal.returns-in-Err-Memory-clause-tells
returns-in-Err-Memory-clause-tells g c = untold c.args.mode _ _ _ _

pub returns-in-Ok-clause-whole : goal.returns-in-Ok-clause-whole
returns-in-Ok-clause-whole g c = λ reads writes.
    tells-whole c.args.mode _ _ _ _ _ c.tell.result (returns-in-Ok-clause-tells g c) reads (λ six. writes (c.tell.ensures.write_fault.cause six))

pub returns-in-Err-Failed-clause-whole : goal.returns-in-Err-Failed-clause-whole
returns-in-Err-Failed-clause-whole g c = λ reads writes. absurd (reads (c.in-Err-Failed.ensures.cause.cause (ap Err c.in-Err-Failed.field-0-is)))

pub returns-in-Err-Memory-clause-whole : goal.returns-in-Err-Memory-clause-whole
returns-in-Err-Memory-clause-whole g c = λ reads writes other. absurd (other refl)
