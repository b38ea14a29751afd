use Rattle.std.proofs.Common.{ℕ, List, subst, ◌∙◌}
use Rattle.cs_base.specs.Answers.{Answers}
use Rattle.cs_base.proofs.Outcomes.{nothing_printed}
use Rattle.cs_config.specs.FileNames.{key_file}
use Rattle.cs_deploy.specs.declared.cause.Cause.TheVariants.{Fault}
use Rattle.cs_deploy.specs.Untaken.{untaken_answer}
use Rattle.cs_deploy.proofs.telling.refuse_keys.Goals as goal

pub returns-in-Ok-clause-answers : goal.returns-in-Ok-clause-answers
returns-in-Ok-clause-answers g c =
    subst (λ (name : List ℕ). Answers (untaken_answer name Fault) (g.K.Sink.written c.args.out.now) (g.K.Sink.written c.refuse_file.new.out) c.refuse_file.result)
    (c.as_str.ensures.value ∙ c.in-Ok.ensures) c.refuse_file.ensures.answers

pub returns-in-Err-clause-answers : goal.returns-in-Err-clause-answers
returns-in-Err-clause-answers g c = nothing_printed (untaken_answer (key_file c.args.me) Fault) _
