use Rattle.std.proofs.Common.{◌≡◌, IfOk, subst, sym}
use Rattle.cs_tx_types.specs.declared.action.Action.{Action}
use Rattle.cs_node_state.specs.Setup.{is_fit}
use Rattle.cs_tx_types.specs.Session.{session_in}
use Rattle.cs_node_pool.specs.Deployed.{deployed_setup}
use Rattle.cs_sbac.proofs.setting.is_fit_entry.Goals as goal

pub returns-in-Prepare-clause-fit : goal.returns-in-Prepare-clause-fit
returns-in-Prepare-clause-fit c genesis approves =
    let setup = deployed_setup c.args.config.now genesis approves in
    let Tells : Action → Type 0 = λ entry. IfOk c.is_fit.result (λ fit. fit ≡ is_fit setup c.args.shard (session_in entry)) in
    subst Tells (sym c.in-Prepare.is) (c.is_fit.ensures.fit genesis approves)

pub returns-in-Decide-clause-fit : goal.returns-in-Decide-clause-fit
returns-in-Decide-clause-fit c genesis approves =
    let setup = deployed_setup c.args.config.now genesis approves in
    let Tells : Action → Type 0 = λ entry. IfOk c.is_fit-in-Decide.result (λ fit. fit ≡ is_fit setup c.args.shard (session_in entry)) in
    subst Tells (sym c.in-Decide.is) (c.is_fit-in-Decide.ensures.fit genesis approves)
