use Rattle.std.proofs.Common.{Some, None, ap, sym, ◌∙◌, append-nil}
use Rattle.cs_cli.specs.Words.{texts_of}
use Rattle.cs_cli.specs.Deployed.{run_called}
use Rattle.cs_cli.proofs.Behind.{hosts-place, hosted-without, hosted-no, hosted-so}
use Rattle.cs_cli.proofs.runs.read_run.Goals as goal

pub returns-in_default : goal.returns-in_default
returns-in_default c =
    let called = run_called c.args.word.now in
    let words = texts_of c.args.options.now in
    c.run_of.ensures.called ∙ ap called (append-nil words) ∙ sym (hosted-without called words (c.in_default.ensures.place ∙ sym (hosts-place c.args.options.now)))

pub returns-then-not-is_hosts_pair : goal.returns-then-not-is_hosts_pair
returns-then-not-is_hosts_pair c =
    sym (hosted-no (run_called c.args.word.now) (texts_of c.args.options.now) c.in-Some.before (c.in-Some.ensures.place ∙ sym (hosts-place c.args.options.now))
    (sym c.is_hosts_pair.ensures.is ∙ c.if-not-is_hosts_pair.true))

pub returns-in_err-deployment : goal.returns-in_err-deployment
returns-in_err-deployment c =
    let called = run_called c.args.word.now in
    c.from_residual.ensures
    ∙ sym (hosted-so called (texts_of c.args.options.now) c.in-Some.before (c.in-Some.ensures.place ∙ sym (hosts-place c.args.options.now))
    (sym c.is_hosts_pair.ensures.is ∙ c.if-not-is_hosts_pair.false) None (ap called (sym c.around.ensures) ∙ sym c.in_err-deployment.ensures.called))

pub returns : goal.returns
returns c =
    let called = run_called c.args.word.now in
    let deployment = c.in_ok-deployment.deployment in
    ap Some c.with_hosts.ensures
    ∙ sym (hosted-so called (texts_of c.args.options.now) c.in-Some.before (c.in-Some.ensures.place ∙ sym (hosts-place c.args.options.now))
    (sym c.is_hosts_pair.ensures.is ∙ c.if-not-is_hosts_pair.false) (Some deployment) (ap called (sym c.around.ensures) ∙ sym c.in_ok-deployment.ensures.called))
