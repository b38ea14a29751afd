use Rattle.std.proofs.Common.{sym, ◌∙◌}
use Rattle.cs_tries.proofs.TryRuns.{accepted-goes, accepted-printed}
use Rattle.cs_tries.proofs.trying.end_accepted.Goals as goal

pub returns-then-details-clause-printed : goal.returns-then-details-clause-printed
returns-then-details-clause-printed g c = λ t stands detailed. c.tell_accepted.ensures.printed t stands (sym detailed ∙ c.if-details.true)

pub returns-else-details-clause-goes : goal.returns-else-details-clause-goes
returns-else-details-clause-goes g c = λ t stands is. accepted-goes t c.args.digest is

pub returns-else-details-clause-printed : goal.returns-else-details-clause-printed
returns-else-details-clause-printed g c = λ t stands detailed. accepted-printed t (g.K.Sink.written c.args.out.now) c.args.digest (sym detailed ∙ c.if-details.false)
