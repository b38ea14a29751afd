use Rattle.std.proofs.Common.{◌≡◌, List, drop}
use Rattle.cs_tx_value.specs.declared.object.Object.{Object}
use Rattle.cs_node_pool.specs.Deployed.{deployed_setup}
use Rattle.cs_node.specs.Proposals.{first_admitted}
use Rattle.cs_node.proofs.engine.first_admitted.Given as goal

abbrev pub invariant-loop-proposed : goal.invariant-loop-proposed
invariant-loop-proposed g l = record {
  judge : l.judge ≡ l.initial.judge;
  rest : (genesis : List Object) →
      let setup = deployed_setup l.sbac.config genesis (g.J.Judge.is_approved l.initial.judge) in
      first_admitted setup l.sbac.me.shard l.sbac.pool l.candidates ≡ first_admitted setup l.sbac.me.shard l.sbac.pool (drop l.proposed-index l.candidates);
}
