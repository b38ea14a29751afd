use Rattle.std.proofs.Common.{◌≡◌, true, subst, rules}
use Rattle.cs_tx.specs.WellFormed.{IsWellFormed}
use Rattle.cs_node_pool.specs.Gathered.{Gathered}
use Rattle.cs_node_pool.proofs.pool.Pool.holds.Goals as goal

pub returns-clause-formed : goal.returns-clause-formed
returns-clause-formed c = λ there.
    let whole : c.self.inside.whole ≡ true = search rules in
    let Formed : Gathered → Type 0 = λ g. IsWellFormed g.config c.args.session.now in
    subst Formed c.self.view_is (c.holds.ensures.formed c.self.inside.config (c.self.invariant whole).right there)
