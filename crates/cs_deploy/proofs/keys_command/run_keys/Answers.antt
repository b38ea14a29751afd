use Rattle.std.proofs.Common.{inl, inr}
use Rattle.cs_wire.specs.AllNames.{names_of}
use Rattle.cs_config.specs.Saving.{SavesUpTo}
use Rattle.cs_deploy.proofs.Answered.{rose-later}
use Rattle.cs_io.specs.laws.Told.{changes-after}
use Rattle.cs_deploy.proofs.DecidedKeys.{keys-decided, keys-other}
use Rattle.cs_deploy.proofs.keys_command.run_keys.Goals as goal

-- ---- the site is taken

pub returns-in-Ok-clause-runs : goal.returns-in-Ok-clause-runs
returns-in-Ok-clause-runs g c =
    let saved = c.save_site.ensures.saved in
    inr (
      c.in-Ok.site,
      c.in-Ok.ensures.taken,
      record {
        result = saved.result;
        saved = changes-after (SavesUpTo c.in-Ok.site.config c.args.master.now (names_of c.in-Ok.site.config) saved.result) _ _ _ c.in-Ok.ensures.kept saved.saved;
        failed = λ failed. rose-later _ _ _ c.in-Ok.ensures.cause.later (saved.failed failed);
        told = saved.told;
      },
    )

pub returns-in-Ok-clause-whole : goal.returns-in-Ok-clause-whole
returns-in-Ok-clause-whole g c = λ stores writes.
    keys-decided c.args.name.now c.args.master.now _ _ _ _ _ c.save_site.result (returns-in-Ok-clause-runs g c) stores
    (λ six. writes (c.save_site.ensures.write_fault.cause six))

pub returns-in-Ok-clause-only : goal.returns-in-Ok-clause-only
returns-in-Ok-clause-only g c = (
  keys-other c.args.name.now c.args.master.now _ _ _ _ _ c.save_site.result 2 (returns-in-Ok-clause-runs g c) (λ is. absurd (cc)) (λ is. absurd (cc)) (λ is. absurd (cc)) (λ is. absurd (cc)),
  keys-other c.args.name.now c.args.master.now _ _ _ _ _ c.save_site.result 5 (returns-in-Ok-clause-runs g c) (λ is. absurd (cc)) (λ is. absurd (cc)) (λ is. absurd (cc)) (λ is. absurd (cc)),
)

-- ---- it isn't

pub returns-in-Err-clause-runs : goal.returns-in-Err-clause-runs
returns-in-Err-clause-runs g c =
    inl (
      c.in-Err.ensures.kept,
      record {
        why = c.in-Err.why;
        is_so = c.in-Err.ensures.taken;
        failed = c.in-Err.ensures.cause.cause;
        told = c.refuse.ensures.tells;
      },
    )

pub returns-in-Err-clause-whole : goal.returns-in-Err-clause-whole
returns-in-Err-clause-whole g c = λ stores writes.
    keys-decided c.args.name.now c.args.master.now _ _ _ _ _ c.refuse.result (returns-in-Err-clause-runs g c) stores
    (λ six. writes (c.refuse.ensures.cause.cause six))

pub returns-in-Err-clause-only : goal.returns-in-Err-clause-only
returns-in-Err-clause-only g c = (
  keys-other c.args.name.now c.args.master.now _ _ _ _ _ c.refuse.result 2 (returns-in-Err-clause-runs g c) (λ is. absurd (cc)) (λ is. absurd (cc)) (λ is. absurd (cc)) (λ is. absurd (cc)),
  keys-other c.args.name.now c.args.master.now _ _ _ _ _ c.refuse.result 5 (returns-in-Err-clause-runs g c) (λ is. absurd (cc)) (λ is. absurd (cc)) (λ is. absurd (cc)) (λ is. absurd (cc)),
)
