use Rattle.std.proofs.Common.{true, sym, ap, ◌∙◌}
use Rattle.cs_client.specs.declared.known.Known.TheVariants as known
use Rattle.cs_client.specs.Seen.{Client}
use Rattle.cs_tries.specs.Tries.{may_follow}
use Rattle.cs_tries.proofs.TryRuns.{follows, follows-not, next-goes, next-printed, last-goes, last-printed}
use Rattle.cs_tries.proofs.trying.try_next.Goals as goal

pub try_again-requires : goal.try_again-requires
try_again-requires g c =
    ap (λ (k : Client). may_follow c.args.tries k.errand.call.number) (sym c.client.ensures)
    ∙ (ap (may_follow c.args.tries) (sym c.number.ensures) ∙ (sym c.may_follow.ensures ∙ c.if-may_follow.true))

pub returns-then-may_follow-clause-goes : goal.returns-then-may_follow-clause-goes
returns-then-may_follow-clause-goes g c = λ t stands detailed left is.
    next-goes t c.args.digest c.try_again.result
    (follows t c.client.result.now c.args.tries c.number.result (sym c.if-may_follow.true ∙ c.may_follow.ensures) c.number.ensures (ap (λ (k : Client). k.errand) c.client.ensures ∙ stands.client.errand_is) left)
    (c.try_again.ensures.goes t stands detailed left)

pub returns-then-may_follow-clause-printed : goal.returns-then-may_follow-clause-printed
returns-then-may_follow-clause-printed g c = λ t stands detailed left.
    next-printed t c.args.digest (g.K.Sink.written c.args.out.now) (g.K.Sink.written c.try_again.new.out) c.try_again.result
    (follows t c.client.result.now c.args.tries c.number.result (sym c.if-may_follow.true ∙ c.may_follow.ensures) c.number.ensures (ap (λ (k : Client). k.errand) c.client.ensures ∙ stands.client.errand_is) left)
    c.try_again.ensures.printed

pub returns-else-may_follow-clause-goes : goal.returns-else-may_follow-clause-goes
returns-else-may_follow-clause-goes g c = λ t stands detailed left is.
    last-goes t c.args.digest
    (follows-not t c.client.result.now c.args.tries c.number.result (sym c.if-may_follow.false ∙ c.may_follow.ensures) c.number.ensures (ap (λ (k : Client). k.errand) c.client.ensures ∙ stands.client.errand_is) left) is

pub returns-else-may_follow-clause-printed : goal.returns-else-may_follow-clause-printed
returns-else-may_follow-clause-printed g c = λ t stands detailed left.
    last-printed t c.args.digest (g.K.Sink.written c.args.out.now) (known.Aborted c.args.digest)
    (follows-not t c.client.result.now c.args.tries c.number.result (sym c.if-may_follow.false ∙ c.may_follow.ensures) c.number.ensures (ap (λ (k : Client). k.errand) c.client.ensures ∙ stands.client.errand_is) left)
