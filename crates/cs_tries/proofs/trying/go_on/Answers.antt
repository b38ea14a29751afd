use Rattle.std.proofs.Common.{Err, sym, subst, ◌∙◌}
use Rattle.cs_client.specs.declared.known.Known.{Known}
use Rattle.cs_tries.specs.Tries.{then_next, line_between}
use Rattle.cs_tries.specs.Trying.{GoesBehind, PrintsBehind}
use Rattle.cs_tries.proofs.TryRuns.{at-client, open-goes, open-printed}
use Rattle.cs_tries.proofs.trying.go_on.Goals as goal

pub returns-in-Open-clause-goes : goal.returns-in-Open-clause-goes
returns-in-Open-clause-goes g c = λ t stands detailed left.
    open-goes t c.args.noted c.args.tries (sym (c.known.ensures t.errand t.inputs (at-client t c.client.result.now c.args.noted c.client.ensures stands)) ∙ c.in-Open.is) stands left

pub returns-in-Open-clause-printed : goal.returns-in-Open-clause-printed
returns-in-Open-clause-printed g c = λ t stands detailed left.
    open-printed t (g.K.Sink.written c.args.out.now) (c.args.noted, c.args.tries) (sym (c.known.ensures t.errand t.inputs (at-client t c.client.result.now c.args.noted c.client.ensures stands)) ∙ c.in-Open.is)

pub returns-in-Accepted-clause-goes : goal.returns-in-Accepted-clause-goes
returns-in-Accepted-clause-goes g c = λ t stands detailed left.
    let is = sym (c.known.ensures t.errand t.inputs (at-client t c.client.result.now c.args.noted c.client.ensures stands)) ∙ c.in-Accepted.is in
    subst (λ (k : Known). GoesBehind (then_next k t) (Err c.end_accepted.result)) (sym is) (c.end_accepted.ensures.goes t (at-client t c.client-in-Accepted.result.now c.args.noted c.client-in-Accepted.ensures stands) is)

pub returns-in-Accepted-clause-printed : goal.returns-in-Accepted-clause-printed
returns-in-Accepted-clause-printed g c = λ t stands detailed left.
    let is = sym (c.known.ensures t.errand t.inputs (at-client t c.client.result.now c.args.noted c.client.ensures stands)) ∙ c.in-Accepted.is in
    subst (λ (k : Known). PrintsBehind (line_between k t) (g.K.Sink.written c.args.out.now) (g.K.Sink.written c.end_accepted.new.out) (Err c.end_accepted.result)) (sym is) (c.end_accepted.ensures.printed t (at-client t c.client-in-Accepted.result.now c.args.noted c.client-in-Accepted.ensures stands) detailed)

pub returns-in-Aborted-clause-goes : goal.returns-in-Aborted-clause-goes
returns-in-Aborted-clause-goes g c = λ t stands detailed left.
    let is = sym (c.known.ensures t.errand t.inputs (at-client t c.client.result.now c.args.noted c.client.ensures stands)) ∙ c.in-Aborted.is in
    subst (λ (k : Known). GoesBehind (then_next k t) c.try_next.result) (sym is) (c.try_next.ensures.goes t stands detailed left is)

pub returns-in-Aborted-clause-printed : goal.returns-in-Aborted-clause-printed
returns-in-Aborted-clause-printed g c = λ t stands detailed left.
    let is = sym (c.known.ensures t.errand t.inputs (at-client t c.client.result.now c.args.noted c.client.ensures stands)) ∙ c.in-Aborted.is in
    subst (λ (k : Known). PrintsBehind (line_between k t) (g.K.Sink.written c.args.out.now) (g.K.Sink.written c.try_next.new.out) c.try_next.result) (sym is) (c.try_next.ensures.printed t stands detailed left)
