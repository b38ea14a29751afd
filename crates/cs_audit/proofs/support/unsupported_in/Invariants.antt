use Rattle.std.proofs.Common.{◌≡◌, List, Bool, drop}
use Rattle.cs_tx_value.specs.declared.object.Object.{Object}
use Rattle.cs_tx_types.specs.declared.transaction.Tx.{Tx}
use Rattle.cs_node_pool.specs.Deployed.{deployed_setup}
use Rattle.cs_audit_dump.specs.declared.dump.Log.{Log}
use Rattle.cs_audit_rules.specs.Support.{unsupported}
use Rattle.cs_audit.specs.Kept.{KeepsVotes}
use Rattle.cs_audit.proofs.support.unsupported_in.Given as goal

abbrev pub invariant-loop-slot : goal.invariant-loop-slot
invariant-loop-slot l = (logs : List Log) (genesis : List Object) (approves : Tx → Bool) → KeepsVotes (deployed_setup l.config genesis approves) logs l.votes
    → unsupported (deployed_setup l.config genesis approves) logs l.shard l.slot (drop l.slot l.leaves) ≡ unsupported (deployed_setup l.config genesis approves) logs l.shard 0 l.leaves
