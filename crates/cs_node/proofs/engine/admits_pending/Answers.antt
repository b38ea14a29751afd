use Rattle.std.proofs.Common.{◌≡◌, Some, sym, ap, ◌∙◌}
use Rattle.std.proofs.lemmas.Result.{IfOk-weaker}
use Rattle.cs_node_state.specs.Setup.{Setup}
use Rattle.cs_node_pool.specs.Deployed.{deployed_setup}
use Rattle.cs_node.specs.Proposals.{admits_pending}
use Rattle.cs_node.proofs.engine.admits_pending.Goals as goal

pub returns-in-Some-clause-admits : goal.returns-in-Some-clause-admits
returns-in-Some-clause-admits g c genesis =
    let held = c.args.sbac.now in
    let setup : Setup = deployed_setup held.config genesis (g.J.Judge.is_approved c.args.judge.now) in
    IfOk-weaker c.admits_proposed.result _ _
    (λ yes is. is ∙ ap (λ o. admits_pending setup held.me.shard held.pool o) c.in-Some.ensures.now)
    (c.admits_proposed.ensures.admits genesis)
