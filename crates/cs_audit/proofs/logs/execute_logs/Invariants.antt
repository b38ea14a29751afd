use Rattle.cs_node_pool.specs.Deployed.{deployed_setup}
use Rattle.cs_audit.proofs.Going.{AreOn}
use Rattle.cs_audit.proofs.logs.execute_logs.Given as goal

abbrev pub invariant-loop-place : goal.invariant-loop-place
invariant-loop-place g l = AreOn (deployed_setup l.dump.config l.dump.genesis (g.J.Judge.is_approved l.judge)) l.dump.logs l.place l.digests l.votes
