use Rattle.std.proofs.Common.{ℕ, List, Err, inl, ap, refl, sym, subst}
use Rattle.cs_base.specs.Answers.{Answers}
use Rattle.cs_base.specs.declared.limits.TheConstants.{MOST_SCHEDULE}
use Rattle.cs_io.specs.Answers.{read_fault_answer}
use Rattle.cs_io.proofs.Closings.{closed}
use Rattle.cs_io.proofs.Sources.{gives-text, not-given, gives-whole}
use Rattle.cs_replay.specs.Answers.{replay_answer}
use Rattle.cs_replay.proofs.source.replay_source.Goals as goal

pub returns-in-Ok-clause-replay : goal.returns-in-Ok-clause-replay
returns-in-Ok-clause-replay g c =
    gives-text MOST_SCHEDULE (replay_answer MOST_SCHEDULE c.args.mode) _ _ _ _ _ c.in-Ok.text.items c.answer.result c.in-Ok.ensures.text
    (subst (λ (text : List ℕ). Answers (replay_answer MOST_SCHEDULE c.args.mode text) (g.K.Sink.written c.args.output.now) (g.K.Sink.written c.answer.new.output) c.answer.result) c.deref.ensures.value c.answer.ensures.answers)

pub returns-in-Err-Failed-clause-replay : goal.returns-in-Err-Failed-clause-replay
returns-in-Err-Failed-clause-replay g c =
    inl (
      c.in-Err-Failed.ensures.cause.cause (ap Err c.in-Err-Failed.field-0-is),
      subst (λ (status : ℕ). Answers read_fault_answer (g.K.Sink.written c.args.output.now) (g.K.Sink.written c.print.new.output) status) (sym c.closing.ensures)
          (closed read_fault_answer c.print.result _ _ c.print.ensures.done c.print.ensures.part),
    )

pub returns-in-Err-Memory-clause-replay : goal.returns-in-Err-Memory-clause-replay
returns-in-Err-Memory-clause-replay g c = not-given MOST_SCHEDULE (replay_answer MOST_SCHEDULE c.args.mode) _ _ _ _

pub returns-in-Ok-clause-complete : goal.returns-in-Ok-clause-complete
returns-in-Ok-clause-complete g c = λ reads writes.
    gives-whole MOST_SCHEDULE (replay_answer MOST_SCHEDULE c.args.mode) _ _ _ _ _ c.answer.result (returns-in-Ok-clause-replay g c) reads (λ six. writes (c.answer.ensures.write_fault.cause six))

pub returns-in-Err-Failed-clause-complete : goal.returns-in-Err-Failed-clause-complete
returns-in-Err-Failed-clause-complete g c = λ reads writes. absurd (reads (c.in-Err-Failed.ensures.cause.cause (ap Err c.in-Err-Failed.field-0-is)))

pub returns-in-Err-Memory-clause-complete : goal.returns-in-Err-Memory-clause-complete
returns-in-Err-Memory-clause-complete g c = λ reads writes other. absurd (other refl)
