use Rattle.std.proofs.Common.{inl, inr}
use Rattle.cs_deploy.proofs.Going.{idle-same}
use Rattle.cs_deploy.proofs.clusters.run_taken.Goals as goal

pub returns-in-Ok-clause-goes : goal.returns-in-Ok-clause-goes
returns-in-Ok-clause-goes g c = inr (c.in-Ok.ensures.saved, c.run_plan.ensures.ends)

pub returns-in-Ok-clause-store : goal.returns-in-Ok-clause-store
returns-in-Ok-clause-store g c = c.in-Ok.ensures.cause.later

pub returns-in-Err-clause-goes : goal.returns-in-Err-clause-goes
returns-in-Err-clause-goes g c = inl (record {
  error = c.in-Err.error;
  saved = c.in-Err.ensures.saved;
  failed = c.in-Err.ensures.cause.cause;
  idle = idle-same _ _ _;
  told = c.tell_unsaved.ensures.tells;
})

pub returns-in-Err-clause-store : goal.returns-in-Err-clause-store
returns-in-Err-clause-store g c = c.in-Err.ensures.cause.later

pub returns-in-Err-clause-write_fault : goal.returns-in-Err-clause-write_fault
returns-in-Err-clause-write_fault g c = c.tell_unsaved.ensures.cause
