use Rattle.std.proofs.Common.{ℕ, List, Err, inl, inr, ap, refl, sym, subst}
use Rattle.cs_base.specs.Answers.{Answers}
use Rattle.cs_base.specs.declared.limits.TheConstants.{MOST_SCHEDULE}
use Rattle.cs_base.proofs.Outcomes.{some_text}
use Rattle.cs_io.specs.Answers.{read_fault_answer}
use Rattle.cs_io.proofs.Closings.{closed}
use Rattle.cs_io.proofs.Sources.{text-read}
use Rattle.cs_deploy.proofs.Answered.{keeps}
use Rattle.cs_trial.specs.Trials.{CasesAnswer}
use Rattle.cs_trial.specs.Command.{Tells}
use Rattle.cs_trial.proofs.command.try_accepted.Goals as goal

pub returns-in-Ok-clause-tries : goal.returns-in-Ok-clause-tries
returns-in-Ok-clause-tries g c =
    inr (record {
      cases = c.in-Ok.cases.items;
      is_text = text-read MOST_SCHEDULE _ _ c.in-Ok.cases.items c.in-Ok.ensures.text;
      whole = λ other. c.in-Ok.ensures.text;
      told = subst (λ (cases : List ℕ). Tells (CasesAnswer c.args.checked.now c.args.text.now cases) (g.K.Sink.written c.args.out.now) (g.K.Sink.written c.try_read.new.out) c.try_read.result) c.deref.ensures.value c.try_read.ensures.tells;
    })

pub returns-in-Err-Failed-clause-tries : goal.returns-in-Err-Failed-clause-tries
returns-in-Err-Failed-clause-tries g c =
    inl (
      c.in-Err-Failed.ensures.cause.cause (ap Err c.in-Err-Failed.field-0-is),
      subst (λ (status : ℕ). Answers read_fault_answer (g.K.Sink.written c.args.out.now) (g.K.Sink.written c.print.new.output) status) (sym c.closing.ensures)
          (closed read_fault_answer c.print.result _ _ c.print.ensures.done c.print.ensures.part),
    )

pub returns-in-Err-Memory-clause-tries : goal.returns-in-Err-Memory-clause-tries
returns-in-Err-Memory-clause-tries g c =
    let (text, is_text) = some_text MOST_SCHEDULE (g.S.Source.left c.args.input.now) in
    inr (record { cases = text; is_text = is_text; whole = λ other. absurd (other refl); told = inr (refl, keeps (g.K.Sink.written c.args.out.now)) })
