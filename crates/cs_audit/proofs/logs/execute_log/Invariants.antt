use Rattle.cs_check_rules.specs.Chain.{empty_log}
use Rattle.cs_audit.specs.Standing.{stand_of}
use Rattle.cs_audit.proofs.Going.{IsOn}
use Rattle.cs_audit.proofs.logs.execute_log.Given as goal

abbrev pub invariant-loop-slot : goal.invariant-loop-slot
invariant-loop-slot g l = IsOn (g.J.Judge.is_approved l.judge) l.fn.stand.config l.shard l.log (stand_of (empty_log l.shard) l.fn.stand) l.fn.votes l.slot l.stand l.digests l.votes
