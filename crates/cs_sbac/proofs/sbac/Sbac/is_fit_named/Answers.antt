use Rattle.std.proofs.Common.{subst}
use Rattle.cs_tx.specs.WellFormed.{IsWellFormed}
use Rattle.cs_sbac.proofs.sbac.Sbac.is_fit_named.Goals as goal

pub is_fit-requires-clause-known : goal.is_fit-requires-clause-known
is_fit-requires-clause-known c = λ h. subst (λ config. IsWellFormed config c.args.session.now) c.self.invariant.same (c.in_ok-known.ensures.formed h)
