use Rattle.std.proofs.Common.{◌≡◌, List, drop}
use Rattle.std.specs.List.{AllByRecursion, list_all}
use Rattle.cs_tx_value.specs.declared.object.Object.{Object}
use Rattle.cs_tx_types.specs.Session.{ActionFits}
use Rattle.cs_node_state.specs.Admission.{admits_action, admits}
use Rattle.cs_node_pool.specs.Deployed.{deployed_setup}
use Rattle.cs_sbac.proofs.sbac.Sbac.admits.Given as goal

abbrev pub invariant-loop-action : goal.invariant-loop-action
invariant-loop-action g l = record {
  fits : AllByRecursion ActionFits (drop l.action-index l.entry.actions);
  judge : l.judge ≡ l.initial.judge;
  rest : (genesis : List Object) →
      let setup = deployed_setup l.self.config genesis (g.J.Judge.is_approved l.initial.judge) in
      admits setup l.self.me.shard l.self.pool l.entry ≡ list_all (admits_action setup l.self.me.shard l.self.pool) (drop l.action-index l.entry.actions);
}
