use Rattle.std.proofs.Common.{Bool, [], take, filter}
use Rattle.cs_tx_types.specs.declared.transaction.Tx.{Tx}
use Rattle.cs_node_pool.specs.Deployed.{deployed_setup}
use Rattle.cs_audit_rules.specs.History.{sessions_in_logs}
use Rattle.cs_audit_rules.specs.Support.{all_logs_commit}
use Rattle.cs_audit.specs.Committed.{FindsTransactions}
use Rattle.cs_audit.specs.Kept.{KeepsVotes}
use Rattle.cs_audit.proofs.history.committed.Given as goal

abbrev pub invariant-loop-shard : goal.invariant-loop-shard
invariant-loop-shard l = (approves : Tx → Bool) → KeepsVotes (deployed_setup l.dump.config l.dump.genesis approves) l.dump.logs l.executed.votes
    → FindsTransactions l.dump.logs l.found.entries (filter (all_logs_commit (deployed_setup l.dump.config l.dump.genesis approves) l.dump.logs) (sessions_in_logs (take l.shard l.logs))) []
