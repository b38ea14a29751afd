use Rattle.std.proofs.Common.{◌≡◌, ◌≤◌, ◌∙◌, Bool, List, length, ap, sym, subst}
use Rattle.std.specs.List.{list_all}
use Rattle.std.proofs.lemmas.List.{drop_all}
use Rattle.cs_tx_types.specs.declared.action.Action.{Action}
use Rattle.cs_tx_types.specs.Session.{ActionFits}
use Rattle.cs_tx_types.specs.declared.transaction.Tx.{Tx}
use Rattle.cs_node_state.specs.Setup.{Setup}
use Rattle.cs_node_state.specs.Admission.{admits_action}
use Rattle.cs_node_pool.specs.Deployed.{deployed_setup}
use Rattle.cs_sbac.proofs.Admitting.{all-passed, not-all, from-here}
use Rattle.cs_sbac.proofs.sbac.Sbac.admits.Goals as goal

pub loop-action-preserved : goal.loop-action-preserved
loop-action-preserved g c =
    let held = c.args.self.now in
    record {
      fits = (from-here ActionFits c.args.entry.now.actions c.as_slice-action-items.result.now c.loop-action.action-index c.action-item.result c.as_slice-action-items.ensures c.loop-action-test.true c.action-item.is c.loop-action.invariant.fits).1;
      judge = c.in_ok-admits_action.ensures.judge ∙ c.loop-action.invariant.judge;
      rest = λ genesis.
          let setup = deployed_setup held.config genesis (g.J.Judge.is_approved c.args.judge.now) in
          let Says : (Tx → Bool) → Type 0 = λ approves. c.in_ok-admits_action.field-0 ≡ admits_action (deployed_setup held.config genesis approves) held.me.shard held.pool c.action-item.result in
          c.loop-action.invariant.rest genesis
          ∙ all-passed (admits_action setup held.me.shard held.pool) c.args.entry.now.actions c.as_slice-action-items.result.now c.loop-action.action-index c.action-item.result c.in_ok-admits_action.field-0
          c.as_slice-action-items.ensures c.loop-action-test.true c.action-item.is (subst Says (ap g.J.Judge.is_approved c.loop-action.invariant.judge) (c.in_ok-admits_action.ensures.admits genesis)) c.if-not-branch.false;
    }

pub admits_action-requires : goal.admits_action-requires
admits_action-requires g c =
    (from-here ActionFits c.args.entry.now.actions c.as_slice-action-items.result.now c.loop-action.action-index c.action-item.result c.as_slice-action-items.ensures c.loop-action-test.true c.action-item.is c.loop-action.invariant.fits).0

pub returns-then-not-branch-clause-admits : goal.returns-then-not-branch-clause-admits
returns-then-not-branch-clause-admits g c = λ genesis.
    let held = c.args.self.now in
    let setup = deployed_setup held.config genesis (g.J.Judge.is_approved c.args.judge.now) in
    let Says : (Tx → Bool) → Type 0 = λ approves. c.in_ok-admits_action.field-0 ≡ admits_action (deployed_setup held.config genesis approves) held.me.shard held.pool c.action-item.result in
    sym (c.loop-action.invariant.rest genesis
    ∙ not-all (admits_action setup held.me.shard held.pool) c.args.entry.now.actions c.as_slice-action-items.result.now c.loop-action.action-index c.action-item.result c.in_ok-admits_action.field-0
    c.as_slice-action-items.ensures c.loop-action-test.true c.action-item.is (subst Says (ap g.J.Judge.is_approved c.loop-action.invariant.judge) (c.in_ok-admits_action.ensures.admits genesis)) c.if-not-branch.true)

pub returns-clause-admits : goal.returns-clause-admits
returns-clause-admits g c = λ genesis.
    let held = c.args.self.now in
    let setup : Setup = deployed_setup held.config genesis (g.J.Judge.is_approved c.args.judge.now) in
    let actions : List Action = c.args.entry.now.actions in
    let Past : List Action → Type 0 = λ xs. length xs ≤ c.loop-action.action-index in
    let past : length actions ≤ c.loop-action.action-index = subst Past c.as_slice-action-items.ensures c.loop-action-test.false in
    sym (c.loop-action.invariant.rest genesis ∙ ap (list_all (admits_action setup held.me.shard held.pool)) (drop_all c.loop-action.action-index actions past))
