use Rattle.std.proofs.Common.{◌≡◌, List, Bool, drop}
use Rattle.cs_tx_value.specs.declared.object.Object.{Object}
use Rattle.cs_tx_types.specs.declared.transaction.Tx.{Tx}
use Rattle.cs_node_pool.specs.Deployed.{deployed_setup}
use Rattle.cs_audit_rules.specs.Support.{support_fault}
use Rattle.cs_audit.specs.Kept.{KeepsVotes}
use Rattle.cs_audit.proofs.support.first_unsupported.Given as goal

abbrev pub invariant-loop-place : goal.invariant-loop-place
invariant-loop-place l = (genesis : List Object) (approves : Tx → Bool) → KeepsVotes (deployed_setup l.dump.config genesis approves) l.dump.logs l.executed.votes
    → support_fault (deployed_setup l.dump.config genesis approves) l.dump.logs l.place (drop l.place l.logs) ≡ support_fault (deployed_setup l.dump.config genesis approves) l.dump.logs 0 l.dump.logs
