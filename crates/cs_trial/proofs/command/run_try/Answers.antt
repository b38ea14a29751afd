use Rattle.std.proofs.Common.{ℕ, List, inl, inr, subst, arith}
use Rattle.cs_base.specs.Outside.{Rose}
use Rattle.cs_deploy.specs.Taking.{FilesCome, bytes_taken}
use Rattle.cs_deploy.specs.Untaken.{IsUntaken}
use Rattle.cs_deploy.proofs.Answered.{keeps}
use Rattle.cs_deploy.proofs.DecidedKeys.{untaken-other}
use Rattle.cs_trial.specs.Command.{TriesText}
use Rattle.cs_trial.proofs.Runs.{runs-whole}
use Rattle.cs_trial.proofs.command.run_try.Goals as goal

-- ---- the file is taken

pub returns-in-Ok-clause-runs : goal.returns-in-Ok-clause-runs
returns-in-Ok-clause-runs g c =
    inr (
      c.in-Ok.text,
      c.in-Ok.ensures.taken,
      subst (λ (text : List ℕ). TriesText text (Rose (g.S.Source.faults c.args.input.now) (g.S.Source.faults c.try_contract.new.input)) (g.S.Source.left c.args.input.now) (g.S.Source.left c.try_contract.new.input) (g.K.Sink.written c.args.out.now) (g.K.Sink.written c.try_contract.new.out) c.try_contract.result)
          c.as_slice.ensures c.try_contract.ensures.tries,
    )

pub returns-in-Ok-clause-whole : goal.returns-in-Ok-clause-whole
returns-in-Ok-clause-whole g c = λ stores reads writes.
    runs-whole c.args.name.now _ _ _ _ _ c.try_contract.result _ _ (returns-in-Ok-clause-runs g c) stores reads (λ six. writes (c.try_contract.ensures.write_fault.cause six))

-- ---- it isn't

pub returns-in-Err-clause-runs : goal.returns-in-Err-clause-runs
returns-in-Err-clause-runs g c =
    inl (
      keeps (g.S.Source.left c.args.input.now),
      record { why = c.in-Err.why; is_so = c.in-Err.ensures.taken; failed = c.in-Err.ensures.cause.cause; told = c.refuse.ensures.tells },
    )

pub returns-in-Err-clause-whole : goal.returns-in-Err-clause-whole
returns-in-Err-clause-whole g c = λ stores reads writes.
    runs-whole c.args.name.now _ _ _ _ _ c.refuse.result _ _ (returns-in-Err-clause-runs g c) stores reads (λ six. writes (c.refuse.ensures.cause.cause six))

pub returns-in-Err-clause-only : goal.returns-in-Err-clause-only
returns-in-Err-clause-only g c =
    let Failed : Type 0 = Rose (g.E.Store.faults c.args.store.now) (g.E.Store.faults c.load.new.store) in
    let is : IsUntaken (FilesCome (bytes_taken c.args.name.now)) Failed (g.E.Store.files c.args.store.now) (g.K.Sink.written c.args.out.now) (g.K.Sink.written c.refuse.new.out) c.refuse.result =
    record { why = c.in-Err.why; is_so = c.in-Err.ensures.taken; failed = c.in-Err.ensures.cause.cause; told = c.refuse.ensures.tells } in
    untaken-other (FilesCome (bytes_taken c.args.name.now)) Failed _ _ _ c.refuse.result 2 is (λ is. absurd (cc)) (λ is. absurd (cc)) (λ is. absurd (cc))

pub returns-in-Err-clause-read_fault : goal.returns-in-Err-clause-read_fault
returns-in-Err-clause-read_fault g c =
    let Failed : Type 0 = Rose (g.E.Store.faults c.args.store.now) (g.E.Store.faults c.load.new.store) in
    let is : IsUntaken (FilesCome (bytes_taken c.args.name.now)) Failed (g.E.Store.files c.args.store.now) (g.K.Sink.written c.args.out.now) (g.K.Sink.written c.refuse.new.out) c.refuse.result =
    record { why = c.in-Err.why; is_so = c.in-Err.ensures.taken; failed = c.in-Err.ensures.cause.cause; told = c.refuse.ensures.tells } in
    record {
      later = omega arith;
      cause = λ five. absurd (untaken-other (FilesCome (bytes_taken c.args.name.now)) Failed _ _ _ c.refuse.result 5 is (λ is. absurd (cc)) (λ is. absurd (cc)) (λ is. absurd (cc)) five);
    }
