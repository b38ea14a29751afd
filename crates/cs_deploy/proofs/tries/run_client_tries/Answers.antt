use Rattle.std.specs.Prelude.{option_copied}
use Rattle.std.proofs.Common.{inl, inr, refl}
use Rattle.cs_io.specs.laws.Told.{stays-same}
use Rattle.cs_deploy.proofs.Tried.{tries-run-decided, tries-run-other}
use Rattle.cs_deploy.proofs.tries.run_client_tries.Goals as goal

-- ---- the files are taken

pub returns-in-Ok-clause-runs : goal.returns-in-Ok-clause-runs
returns-in-Ok-clause-runs g c = inr ((c.in-Ok.both, c.in-Ok.hosts), c.in-Ok.ensures.taken, c.judge_call.ensures.goes)

pub returns-in-Ok-clause-whole : goal.returns-in-Ok-clause-whole
returns-in-Ok-clause-whole g c = λ stores links writes.
    tries-run-decided c.args.site_name.now c.args.keys_name.now c.args.call_name.now (option_copied c.args.hosts_name) c.args.wishes c.args.until _ _ _ _ _ c.judge_call.result (returns-in-Ok-clause-runs g c) stores links
    (λ six. writes (c.judge_call.ensures.write_fault.cause six))

pub returns-in-Ok-clause-only : goal.returns-in-Ok-clause-only
returns-in-Ok-clause-only g c = (
  tries-run-other c.args.site_name.now c.args.keys_name.now c.args.call_name.now (option_copied c.args.hosts_name) c.args.wishes c.args.until _ _ _ _ _ c.judge_call.result 2 (returns-in-Ok-clause-runs g c) (λ is. absurd (cc)) (λ is. absurd (cc)) (λ is. absurd (cc)) (λ is. absurd (cc)) (λ is. absurd (cc)) (λ is. absurd (cc)) (λ is. absurd (cc)),
  tries-run-other c.args.site_name.now c.args.keys_name.now c.args.call_name.now (option_copied c.args.hosts_name) c.args.wishes c.args.until _ _ _ _ _ c.judge_call.result 5 (returns-in-Ok-clause-runs g c) (λ is. absurd (cc)) (λ is. absurd (cc)) (λ is. absurd (cc)) (λ is. absurd (cc)) (λ is. absurd (cc)) (λ is. absurd (cc)) (λ is. absurd (cc)),
)

-- ---- one isn't

pub returns-in-Err-clause-runs : goal.returns-in-Err-clause-runs
returns-in-Err-clause-runs g c = inl (record {
  untouched = record {
    bound = stays-same (g.L.Link.told c.args.link.now).bound;
    placed = stays-same (g.L.Link.told c.args.link.now).placed;
    quiet = record {
      left = stays-same (g.L.Link.told c.args.link.now).left;
      offered = stays-same (g.L.Link.told c.args.link.now).offered;
      missed = refl;
    };
  };
  untaken = record {
    why = c.in-Err.why;
    is_so = c.in-Err.ensures.taken;
    failed = c.in-Err.ensures.cause.cause;
    told = c.refuse.ensures.tells;
  };
})

pub returns-in-Err-clause-whole : goal.returns-in-Err-clause-whole
returns-in-Err-clause-whole g c = λ stores links writes.
    tries-run-decided c.args.site_name.now c.args.keys_name.now c.args.call_name.now (option_copied c.args.hosts_name) c.args.wishes c.args.until _ _ _ _ _ c.refuse.result (returns-in-Err-clause-runs g c) stores links
    (λ six. writes (c.refuse.ensures.cause.cause six))

pub returns-in-Err-clause-only : goal.returns-in-Err-clause-only
returns-in-Err-clause-only g c = (
  tries-run-other c.args.site_name.now c.args.keys_name.now c.args.call_name.now (option_copied c.args.hosts_name) c.args.wishes c.args.until _ _ _ _ _ c.refuse.result 2 (returns-in-Err-clause-runs g c) (λ is. absurd (cc)) (λ is. absurd (cc)) (λ is. absurd (cc)) (λ is. absurd (cc)) (λ is. absurd (cc)) (λ is. absurd (cc)) (λ is. absurd (cc)),
  tries-run-other c.args.site_name.now c.args.keys_name.now c.args.call_name.now (option_copied c.args.hosts_name) c.args.wishes c.args.until _ _ _ _ _ c.refuse.result 5 (returns-in-Err-clause-runs g c) (λ is. absurd (cc)) (λ is. absurd (cc)) (λ is. absurd (cc)) (λ is. absurd (cc)) (λ is. absurd (cc)) (λ is. absurd (cc)) (λ is. absurd (cc)),
)
