use Rattle.std.proofs.Common.{◌∙◌, sym}
use Rattle.cs_sbac.proofs.Settings.{known-formed}
use Rattle.cs_sbac.proofs.sbac.Sbac.admits_prepare.Goals as goal

pub is_fit-requires-clause-known : goal.is_fit-requires-clause-known
is_fit-requires-clause-known g c = λ h.
    known-formed c.self.inside.config c.self.inside.pool.config c.args.session.now c.in_ok-known.known c.self.invariant.same c.in_ok-known.ensures.known (sym c.is_some.ensures ∙ h)
