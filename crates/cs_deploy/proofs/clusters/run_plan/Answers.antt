use Rattle.std.specs.Prelude.{◌≡◌, Result, IsErrOf}
use Rattle.std.proofs.Common.{Ok, Err, refl, ap, sym, subst}
use Rattle.cs_spawn.specs.declared.error.ClusterError.{ClusterError}
use Rattle.cs_spawn.specs.declared.error.ClusterError.TheVariants.{SpawnFault, WriteFault, Memory}
use Rattle.cs_deploy.specs.Cluster.{TellsEnd}
use Rattle.cs_deploy.proofs.Answered.{keeps, cause-later}
use Rattle.cs_deploy.proofs.clusters.run_plan.Goals as goal

abbrev failing : ClusterError → Result (Unit {0}) ClusterError
failing e = Err e

-- an error is one alone
never : (e f : ClusterError) → e ≡ f → (f ≡ SpawnFault → ⊥) → IsErrOf (failing e) SpawnFault → ⊥
never e f is other same = other (let q : failing e ≡ failing SpawnFault = same in cc)

pub returns-in-Ok-clause-ends : goal.returns-in-Ok-clause-ends
returns-in-Ok-clause-ends g c = record {
  result = Ok tt;
  written = g.K.Sink.written c.cluster.new.out;
  ends = c.in-Ok.ensures.does;
  failed = λ is. absurd (cc);
  told = (refl, keeps (g.K.Sink.written c.cluster.new.out));
}

pub returns-in-Ok-clause-write_fault : goal.returns-in-Ok-clause-write_fault
returns-in-Ok-clause-write_fault g c = record { later = c.in-Ok.ensures.sink.later; cause = λ six. absurd (cc) }

pub returns-in-Err-SpawnFault-clause-ends : goal.returns-in-Err-SpawnFault-clause-ends
returns-in-Err-SpawnFault-clause-ends g c = record {
  result = Err c.in-Err-SpawnFault.field-0;
  written = g.K.Sink.written c.cluster.new.out;
  ends = c.in-Err-SpawnFault.ensures.does;
  failed = c.in-Err-SpawnFault.ensures.spawner.cause;
  told = subst (λ (e : ClusterError). TellsEnd (Err e) (g.K.Sink.written c.cluster.new.out) (g.K.Sink.written c.tell.new.out) c.tell.result) (sym c.in-Err-SpawnFault.field-0-is) c.tell.ensures.answers;
}

pub returns-in-Err-SpawnFault-clause-write_fault : goal.returns-in-Err-SpawnFault-clause-write_fault
returns-in-Err-SpawnFault-clause-write_fault g c =
    cause-later _ _ _ c.in-Err-SpawnFault.ensures.sink.later (record { later = c.tell.ensures.faults; cause = c.tell.ensures.cause (λ is. absurd (cc)) })

pub returns-in-Err-WriteFault-clause-ends : goal.returns-in-Err-WriteFault-clause-ends
returns-in-Err-WriteFault-clause-ends g c = record {
  result = Err c.in-Err-WriteFault.field-0;
  written = g.K.Sink.written c.cluster.new.out;
  ends = c.in-Err-WriteFault.ensures.does;
  failed = λ is. absurd (never c.in-Err-WriteFault.field-0 WriteFault c.in-Err-WriteFault.field-0-is (λ p. cc) is);
  told = subst (λ (e : ClusterError). TellsEnd (Err e) (g.K.Sink.written c.cluster.new.out) (g.K.Sink.written c.cluster.new.out) 6) (sym c.in-Err-WriteFault.field-0-is) (refl, keeps (g.K.Sink.written c.cluster.new.out));
}

pub returns-in-Err-WriteFault-clause-write_fault : goal.returns-in-Err-WriteFault-clause-write_fault
returns-in-Err-WriteFault-clause-write_fault g c = record { later = c.in-Err-WriteFault.ensures.sink.later; cause = λ six. c.in-Err-WriteFault.ensures.sink.cause (ap (λ (e : ClusterError). Err e) c.in-Err-WriteFault.field-0-is) }

pub returns-in-Err-Memory-clause-ends : goal.returns-in-Err-Memory-clause-ends
returns-in-Err-Memory-clause-ends g c = record {
  result = Err c.in-Err-Memory.field-0;
  written = g.K.Sink.written c.cluster.new.out;
  ends = c.in-Err-Memory.ensures.does;
  failed = λ is. absurd (never c.in-Err-Memory.field-0 Memory c.in-Err-Memory.field-0-is (λ p. cc) is);
  told = subst (λ (e : ClusterError). TellsEnd (Err e) (g.K.Sink.written c.cluster.new.out) (g.K.Sink.written c.cluster.new.out) 8) (sym c.in-Err-Memory.field-0-is) (refl, keeps (g.K.Sink.written c.cluster.new.out));
}

pub returns-in-Err-Memory-clause-write_fault : goal.returns-in-Err-Memory-clause-write_fault
returns-in-Err-Memory-clause-write_fault g c = record { later = c.in-Err-Memory.ensures.sink.later; cause = λ six. absurd (cc) }
