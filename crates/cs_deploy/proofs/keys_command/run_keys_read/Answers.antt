use Rattle.std.proofs.Common.{inl, inr, arith}
use Rattle.cs_base.specs.Outside.{Rose}
use Rattle.cs_deploy.specs.Taking.{FilesCome}
use Rattle.cs_deploy.specs.Files.{site_taken}
use Rattle.cs_deploy.specs.Untaken.{IsUntaken}
use Rattle.cs_deploy.proofs.Answered.{keeps}
use Rattle.cs_deploy.proofs.DecidedKeys.{untaken-other}
use Rattle.cs_deploy.proofs.Reading.{read-decided, keys_read-other, read-later}
use Rattle.cs_deploy.proofs.keys_command.run_keys_read.Goals as goal

-- ---- the site is taken

pub returns-in-Ok-clause-runs : goal.returns-in-Ok-clause-runs
returns-in-Ok-clause-runs g c =
    inr (
      c.in-Ok.site,
      c.in-Ok.ensures.taken,
      read-later _ _ _ _ _ _ _ _ _ _ c.save_read.result c.in-Ok.ensures.kept c.in-Ok.ensures.cause.later c.in-Ok.site _ c.save_read.ensures.saves,
    )

pub returns-in-Ok-clause-whole : goal.returns-in-Ok-clause-whole
returns-in-Ok-clause-whole g c = λ stores reads writes.
    read-decided _ _ _ _ _ _ c.save_read.result c.args.name.now (returns-in-Ok-clause-runs g c) stores reads
    (λ six. writes (c.save_read.ensures.write_fault.cause six))

pub returns-in-Ok-clause-only : goal.returns-in-Ok-clause-only
returns-in-Ok-clause-only g c = keys_read-other _ _ _ _ _ _ c.save_read.result c.args.name.now 2 (returns-in-Ok-clause-runs g c) (λ is. absurd (cc)) (λ is. absurd (cc)) (λ is. absurd (cc)) (λ is. absurd (cc)) (λ is. absurd (cc)) (λ is. absurd (cc))

-- ---- it isn't

pub returns-in-Err-clause-runs : goal.returns-in-Err-clause-runs
returns-in-Err-clause-runs g c =
    inl (
      c.in-Err.ensures.kept,
      keeps (g.S.Source.left c.args.input.now),
      record { why = c.in-Err.why; is_so = c.in-Err.ensures.taken; failed = c.in-Err.ensures.cause.cause; told = c.refuse.ensures.tells },
    )

pub returns-in-Err-clause-whole : goal.returns-in-Err-clause-whole
returns-in-Err-clause-whole g c = λ stores reads writes.
    read-decided _ _ _ _ _ _ c.refuse.result c.args.name.now (returns-in-Err-clause-runs g c) stores reads
    (λ six. writes (c.refuse.ensures.cause.cause six))

pub returns-in-Err-clause-only : goal.returns-in-Err-clause-only
returns-in-Err-clause-only g c = keys_read-other _ _ _ _ _ _ c.refuse.result c.args.name.now 2 (returns-in-Err-clause-runs g c) (λ is. absurd (cc)) (λ is. absurd (cc)) (λ is. absurd (cc)) (λ is. absurd (cc)) (λ is. absurd (cc)) (λ is. absurd (cc))

pub returns-in-Err-clause-read_fault : goal.returns-in-Err-clause-read_fault
returns-in-Err-clause-read_fault g c =
    let Failed : Type 0 = Rose (g.E.Store.faults c.args.store.now) (g.E.Store.faults c.take_site.new.store) in
    let is : IsUntaken (FilesCome (site_taken c.args.name.now)) Failed (g.E.Store.files c.args.store.now) (g.K.Sink.written c.args.out.now) (g.K.Sink.written c.refuse.new.out) c.refuse.result =
    record { why = c.in-Err.why; is_so = c.in-Err.ensures.taken; failed = c.in-Err.ensures.cause.cause; told = c.refuse.ensures.tells } in
    record {
      later = omega arith;
      cause = λ five. absurd (untaken-other (FilesCome (site_taken c.args.name.now)) Failed _ _ _ c.refuse.result 5 is (λ is. absurd (cc)) (λ is. absurd (cc)) (λ is. absurd (cc)) five);
    }
