use Rattle.std.proofs.Common.{sym, subst}
use Rattle.cs_tx.specs.WellFormed.{IsWellFormed}
use Rattle.cs_node_pool.proofs.Right.{formed-found}
use Rattle.cs_node_pool.proofs.kept.Kept.holds.Goals as goal

pub returns-in-Some-clause-formed : goal.returns-in-Some-clause-formed
returns-in-Some-clause-formed c config right = λ there.
    subst (IsWellFormed config) (c.same_session.ensures.0 there)
    (formed-found config c.args.digest.now c.args.self.now.seats.entries c.in-Some.pooled.now right (sym c.in-Some.ensures))
