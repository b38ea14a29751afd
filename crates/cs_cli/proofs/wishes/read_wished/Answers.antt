use Rattle.std.proofs.Common.{Some, None, ap, sym, ◌∙◌}
use Rattle.cs_cli.specs.Words.{texts_of}
use Rattle.cs_cli.specs.Deployed.{run_called, hosted}
use Rattle.cs_cli.proofs.BehindAll.{wish-place, front-texts, behind-texts, wished-without, wished-with}
use Rattle.cs_cli.proofs.wishes.read_wished.Goals as goal

pub returns-in_default : goal.returns-in_default
returns-in_default c =
    let called = hosted (run_called c.args.word.now) in
    let words = texts_of c.args.options.now in
    c.read_run.ensures ∙ sym (wished-without called words (c.in_default.ensures.place ∙ sym (wish-place c.args.options.now)))

pub returns-in_err-deployment : goal.returns-in_err-deployment
returns-in_err-deployment c =
    let called = hosted (run_called c.args.word.now) in
    let options = c.args.options.now in
    c.from_residual.ensures
    ∙ sym (wished-with called (texts_of options) c.in-Some.before _ None (c.in-Some.ensures.place ∙ sym (wish-place options)) (behind-texts options c.split_at.result.1.now c.in-Some.before c.split_at.ensures.back)
    (ap called (sym (front-texts options c.split_at.result.0.now c.in-Some.before c.split_at.ensures.front)) ∙ sym c.in_err-deployment.ensures))

pub returns : goal.returns
returns c =
    let called = hosted (run_called c.args.word.now) in
    let options = c.args.options.now in
    let deployment = c.in_ok-deployment.deployment in
    c.with_wishes.ensures
    ∙ sym (wished-with called (texts_of options) c.in-Some.before _ (Some deployment) (c.in-Some.ensures.place ∙ sym (wish-place options)) (behind-texts options c.split_at.result.1.now c.in-Some.before c.split_at.ensures.back)
    (ap called (sym (front-texts options c.split_at.result.0.now c.in-Some.before c.split_at.ensures.front)) ∙ sym c.in_ok-deployment.ensures))
