use Rattle.std.proofs.Common.{List, ℕ, OnErr, subst, ◌∙◌}
use Rattle.cs_base.specs.Answers.{AppendsFront}
use Rattle.cs_tries.proofs.TryRuns.{announced-text}
use Rattle.cs_tries.proofs.trying.announce.Goals as goal

pub returns-clause-part : goal.returns-clause-part
returns-clause-part g c = λ t stands.
    subst (λ (text : List ℕ). OnErr c.print.result (AppendsFront (g.K.Sink.written c.args.out.now) (g.K.Sink.written c.print.new.output) text))
    (c.as_bytes.ensures.value ∙ (c.in-Ok.ensures ∙ announced-text t c.args.announcing c.in-Some.session.now c.if-not-announcing.false (c.in-Some.ensures.session t.errand t.inputs stands)))
    c.print.ensures.part
