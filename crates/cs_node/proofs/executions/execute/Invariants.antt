use Rattle.std.specs.Prelude.{IfSome}
use Rattle.std.proofs.Common.{◌≡◌, Bool, List, length}
use Rattle.cs_tx_value.specs.declared.object.Object.{Object}
use Rattle.cs_tx_types.specs.declared.transaction.Tx.{Tx}
use Rattle.cs_tx_types.specs.declared.limits.TheConstants.{COVERED}
use Rattle.cs_check_rules.specs.Chain.{AtItsLog}
use Rattle.cs_node_pool.specs.Deployed.{deployed_setup}
use Rattle.cs_sbac.specs.Held.{bench_of}
use Rattle.cs_node.specs.Executions.{RanSome}
use Rattle.cs_node.proofs.executions.execute.Given as goal

abbrev pub invariant-loop-action : goal.invariant-loop-action
invariant-loop-action l = record {
  place_is : l.place ≡ length l.yielded;
  covers : IfSome l.made (λ checkpoint. checkpoint.leaves ≡ COVERED);
  runs : (genesis : List Object) (approves : Tx → Bool) → AtItsLog l.initial.sbac.archived.kept (λ log.
      RanSome (deployed_setup l.initial.sbac.config genesis approves) l.initial.sbac (bench_of log l.initial.sbac) l.sbac l.initial.draft l.draft l.slot l.yielded l.made);
}
