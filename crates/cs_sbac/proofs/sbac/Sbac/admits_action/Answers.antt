use Rattle.std.proofs.Common.{◌∙◌, ap, sym}
use Rattle.std.proofs.lemmas.Result.{IfOk-weaker}
use Rattle.cs_node_state.specs.Setup.{Setup}
use Rattle.cs_node_state.specs.Admission.{admits_action}
use Rattle.cs_node_pool.specs.Deployed.{deployed_setup}
use Rattle.cs_sbac.proofs.sbac.Sbac.admits_action.Goals as goal

pub returns-in-Prepare-clause-admits : goal.returns-in-Prepare-clause-admits
returns-in-Prepare-clause-admits g c genesis =
    let held = c.args.self.now in
    let setup : Setup = deployed_setup held.config genesis (g.J.Judge.is_approved c.args.judge.now) in
    IfOk-weaker c.admits_prepare.result _ _
    (λ admitted is. is ∙ ap (admits_action setup held.me.shard held.pool) (sym c.in-Prepare.is))
    (c.admits_prepare.ensures.admits genesis)

pub returns-in-Decide-clause-admits : goal.returns-in-Decide-clause-admits
returns-in-Decide-clause-admits g c genesis =
    let held = c.args.self.now in
    let approves = g.J.Judge.is_approved c.args.judge.now in
    let setup : Setup = deployed_setup held.config genesis approves in
    IfOk-weaker c.admits_decide.result _ _
    (λ admitted is. is ∙ ap (admits_action setup held.me.shard held.pool) (sym c.in-Decide.is))
    (c.admits_decide.ensures genesis approves)
