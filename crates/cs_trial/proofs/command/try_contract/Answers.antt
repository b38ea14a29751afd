use Rattle.std.proofs.Common.{inl, inr, refl, subst}
use Rattle.cs_types.specs.Judging.{HasFault}
use Rattle.cs_deploy.proofs.Answered.{keeps}
use Rattle.cs_trial.proofs.command.try_contract.Goals as goal

pub tell_fault-requires : goal.tell_fault-requires
tell_fault-requires g c = subst (HasFault c.args.text.now) c.in-Err-Faulty.field-0-is c.in-Err-Faulty.ensures.refused

pub returns-in-Ok-clause-tries : goal.returns-in-Ok-clause-tries
returns-in-Ok-clause-tries g c = inr (c.in-Ok.checked, c.in-Ok.ensures.exact, c.try_accepted.ensures.tries)

pub returns-in-Err-Faulty-clause-tries : goal.returns-in-Err-Faulty-clause-tries
returns-in-Err-Faulty-clause-tries g c = inl (keeps (g.S.Source.left c.args.input.now), c.tell_fault.ensures.tells)

pub returns-in-Err-Memory-clause-tries : goal.returns-in-Err-Memory-clause-tries
returns-in-Err-Memory-clause-tries g c = inl (keeps (g.S.Source.left c.args.input.now), inr (refl, keeps (g.K.Sink.written c.args.out.now)))
