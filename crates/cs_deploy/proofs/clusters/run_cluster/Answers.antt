use Rattle.std.proofs.Common.{inl, inr}
use Rattle.cs_deploy.proofs.Going.{going-later, idle-same}
use Rattle.cs_deploy.proofs.DecidedKeys.{cluster-decided, cluster-other}
use Rattle.cs_deploy.proofs.clusters.run_cluster.Goals as goal

pub returns-in-Ok-clause-runs : goal.returns-in-Ok-clause-runs
returns-in-Ok-clause-runs g c =
    inr (
      (c.in-Ok.plan, c.in-Ok.site),
      c.in-Ok.ensures.taken,
      going-later c.in-Ok.plan c.in-Ok.site _ _ _ _ _ _ _ _ _ c.run_taken.result c.in-Ok.ensures.kept c.in-Ok.ensures.cause.later c.run_taken.ensures.goes,
    )

pub returns-in-Ok-clause-whole : goal.returns-in-Ok-clause-whole
returns-in-Ok-clause-whole g c = λ stores starts writes.
    cluster-decided c.args.name.now _ _ _ _ _ _ c.run_taken.result (returns-in-Ok-clause-runs g c) stores starts
    (λ six. writes (c.run_taken.ensures.write_fault.cause six))

pub returns-in-Ok-clause-only : goal.returns-in-Ok-clause-only
returns-in-Ok-clause-only g c = (
  cluster-other c.args.name.now _ _ _ _ _ _ c.run_taken.result 2 (returns-in-Ok-clause-runs g c) (λ is. absurd (cc)) (λ is. absurd (cc)) (λ is. absurd (cc)) (λ is. absurd (cc)) (λ is. absurd (cc)),
  cluster-other c.args.name.now _ _ _ _ _ _ c.run_taken.result 5 (returns-in-Ok-clause-runs g c) (λ is. absurd (cc)) (λ is. absurd (cc)) (λ is. absurd (cc)) (λ is. absurd (cc)) (λ is. absurd (cc)),
)

pub returns-in-Err-clause-runs : goal.returns-in-Err-clause-runs
returns-in-Err-clause-runs g c = inl (record {
  kept = c.in-Err.ensures.kept;
  idle = idle-same _ _ _;
  untaken = record {
    why = c.in-Err.why;
    is_so = c.in-Err.ensures.taken;
    failed = c.in-Err.ensures.cause.cause;
    told = c.refuse.ensures.tells;
  };
})

pub returns-in-Err-clause-whole : goal.returns-in-Err-clause-whole
returns-in-Err-clause-whole g c = λ stores starts writes.
    cluster-decided c.args.name.now _ _ _ _ _ _ c.refuse.result (returns-in-Err-clause-runs g c) stores starts
    (λ six. writes (c.refuse.ensures.cause.cause six))

pub returns-in-Err-clause-only : goal.returns-in-Err-clause-only
returns-in-Err-clause-only g c = (
  cluster-other c.args.name.now _ _ _ _ _ _ c.refuse.result 2 (returns-in-Err-clause-runs g c) (λ is. absurd (cc)) (λ is. absurd (cc)) (λ is. absurd (cc)) (λ is. absurd (cc)) (λ is. absurd (cc)),
  cluster-other c.args.name.now _ _ _ _ _ _ c.refuse.result 5 (returns-in-Err-clause-runs g c) (λ is. absurd (cc)) (λ is. absurd (cc)) (λ is. absurd (cc)) (λ is. absurd (cc)) (λ is. absurd (cc)),
)
