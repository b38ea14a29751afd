use Rattle.std.proofs.Common.{ℕ, List, Err, inl, inr, ap, refl, sym, subst}
use Rattle.cs_base.specs.Answers.{Answers}
use Rattle.cs_base.specs.declared.limits.TheConstants.{MOST_SCHEDULE}
use Rattle.cs_base.proofs.Outcomes.{some_text}
use Rattle.cs_io.specs.Answers.{read_fault_answer}
use Rattle.cs_io.proofs.Closings.{closed}
use Rattle.cs_io.proofs.Sources.{text-read}
use Rattle.cs_transact.specs.Command.{TransactionTold}
use Rattle.cs_transact.proofs.Closed.{kept, runs-whole}
use Rattle.cs_transact.proofs.command.run_transaction.Goals as goal

pub returns-in-Ok-clause-runs : goal.returns-in-Ok-clause-runs
returns-in-Ok-clause-runs g c =
    inr (record {
      text = c.in-Ok.text.items;
      is_text = text-read MOST_SCHEDULE _ _ c.in-Ok.text.items c.in-Ok.ensures.text;
      whole = λ other. c.in-Ok.ensures.text;
      told = subst (λ (text : List ℕ). TransactionTold c.args.number text (g.K.Sink.written c.args.out.now) (g.K.Sink.written c.tell_read.new.out) c.tell_read.result) c.deref.ensures.value c.tell_read.ensures.told;
    })

pub returns-in-Err-Failed-clause-runs : goal.returns-in-Err-Failed-clause-runs
returns-in-Err-Failed-clause-runs g c =
    inl (
      c.in-Err-Failed.ensures.cause.cause (ap Err c.in-Err-Failed.field-0-is),
      subst (λ (status : ℕ). Answers read_fault_answer (g.K.Sink.written c.args.out.now) (g.K.Sink.written c.print.new.output) status) (sym c.closing.ensures)
          (closed read_fault_answer c.print.result _ _ c.print.ensures.done c.print.ensures.part),
    )

pub returns-in-Err-Memory-clause-runs : goal.returns-in-Err-Memory-clause-runs
returns-in-Err-Memory-clause-runs g c =
    let (text, is_text) = some_text MOST_SCHEDULE (g.S.Source.left c.args.input.now) in
    inr (record { text = text; is_text = is_text; whole = λ other. absurd (other refl); told = inr (refl, kept (g.K.Sink.written c.args.out.now)) })

pub returns-in-Ok-clause-whole : goal.returns-in-Ok-clause-whole
returns-in-Ok-clause-whole g c = λ reads writes.
    runs-whole c.args.number _ _ _ _ _ c.tell_read.result (returns-in-Ok-clause-runs g c) reads (λ six. writes (c.tell_read.ensures.write_fault.cause six))

pub returns-in-Err-Failed-clause-whole : goal.returns-in-Err-Failed-clause-whole
returns-in-Err-Failed-clause-whole g c = λ reads writes. absurd (reads (c.in-Err-Failed.ensures.cause.cause (ap Err c.in-Err-Failed.field-0-is)))

pub returns-in-Err-Memory-clause-whole : goal.returns-in-Err-Memory-clause-whole
returns-in-Err-Memory-clause-whole g c = λ reads writes other. absurd (other refl)
