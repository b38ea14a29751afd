use Rattle.std.proofs.Common.{rules, sym, ◌∙◌, subst}
use Rattle.cs_proc.specs.Calling.{CallRan, ran}
use Rattle.cs_proc.specs.Answering.{RunAnswers}
use Rattle.cs_proc.proofs.Approving.{all_approved}
use Rattle.cs_proc.proofs.answering.run_method.Goals as goal

pub returns-in-None : goal.returns-in-None
returns-in-None c = record {
  ran = subst (λ (told : CallRan). RunAnswers (ran c.args.book.now c.args.call.now) told) c.in_ok-run.was c.run.ensures;
  fits = search rules;
  approved = all_approved c.args.book.now (record { traces = c.in_ok-run.field-0 }) (sym c.in-None.is ∙ c.in_ok-place.ensures);
}
