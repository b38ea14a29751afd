use Rattle.std.proofs.Common.{◌≡◌, Bool, None}
use Rattle.cs_tx_types.specs.declared.transaction.Tx.{Tx}
use Rattle.cs_node_pool.specs.Deployed.{deployed_setup}
use Rattle.cs_audit_rules.specs.Slots.{logs_fault}
use Rattle.cs_audit.specs.Kept.{KeepsVotes}
use Rattle.cs_audit.proofs.Untold.{ToldSoFar}
use Rattle.cs_audit.proofs.history.first_untold.Given as goal

abbrev pub invariant-loop-place : goal.invariant-loop-place
invariant-loop-place l = (approves : Tx → Bool) → logs_fault (deployed_setup l.dump.config l.dump.genesis approves) 0 l.dump.logs ≡ None → KeepsVotes (deployed_setup l.dump.config l.dump.genesis approves) l.dump.logs l.executed.votes
    → ToldSoFar approves l.dump l.place l.found.entries l.ledger
