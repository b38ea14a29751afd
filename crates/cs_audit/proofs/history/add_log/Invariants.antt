use Rattle.std.proofs.Common.{◌≡◌, ◌++◌, List, Bool, [], Some, take, filter}
use Rattle.std.specs.List.{flat_map}
use Rattle.std.specs.Prelude.{slice_get}
use Rattle.cs_tx_value.specs.declared.object.Object.{Object}
use Rattle.cs_tx_types.specs.declared.session.Session.{Session}
use Rattle.cs_tx_types.specs.declared.transaction.Tx.{Tx}
use Rattle.cs_node_pool.specs.Deployed.{deployed_setup}
use Rattle.cs_audit_dump.specs.declared.dump.Log.{Log}
use Rattle.cs_audit_rules.specs.History.{prepared_session}
use Rattle.cs_audit_rules.specs.Support.{all_logs_commit}
use Rattle.cs_audit.specs.Committed.{FindsTransactions}
use Rattle.cs_audit.specs.Kept.{KeepsVotes}
use Rattle.cs_audit.proofs.history.add_log.Given as goal

abbrev pub invariant-loop-slot : goal.invariant-loop-slot
invariant-loop-slot l = (objects : List Object) (approves : Tx → Bool) (logs : List Log) (sessions : List Session) → KeepsVotes (deployed_setup l.config objects approves) logs l.votes
    → slice_get logs l.shard ≡ Some l.log → FindsTransactions logs l.fn.found.entries sessions []
    → FindsTransactions logs l.found.entries (sessions ++ filter (all_logs_commit (deployed_setup l.config objects approves) logs) (flat_map (λ leaf. prepared_session leaf.action) (take l.slot l.leaves))) []
