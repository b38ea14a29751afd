use Rattle.std.proofs.Common.{◌≡◌, ◌↔◌, true, IsSome, subst, rules}
use Rattle.cs_node_pool.specs.Calls.{IsNext}
use Rattle.cs_node_pool.specs.Deployed.{deployed_setup}
use Rattle.cs_node_pool.specs.Gathered.{Gathered}
use Rattle.cs_node_pool.proofs.pool.Pool.known.Goals as goal

pub returns-clause-next : goal.returns-clause-next
returns-clause-next c genesis approves =
    let whole : c.self.inside.whole ≡ true = search rules in
    let Next : Gathered → Type 0 = λ g. IsSome c.known.result ↔ IsNext (deployed_setup g.config genesis approves) g.sessions c.args.session.now in
    subst Next c.self.view_is (c.known.ensures.next c.self.inside.config (c.self.invariant whole).right genesis approves)
