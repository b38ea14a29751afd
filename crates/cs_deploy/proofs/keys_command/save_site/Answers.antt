use Rattle.std.proofs.Common.{Ok, Err, refl}
use Rattle.cs_deploy.proofs.Answered.{keeps}
use Rattle.cs_deploy.proofs.keys_command.save_site.Goals as goal

pub returns-in-Ok-clause-saved : goal.returns-in-Ok-clause-saved
returns-in-Ok-clause-saved g c = record {
  result = Ok tt;
  saved = c.in-Ok.ensures.saved;
  failed = λ is. absurd is;
  told = (refl, keeps (g.K.Sink.written c.args.out.now));
}

pub returns-in-Ok-clause-store : goal.returns-in-Ok-clause-store
returns-in-Ok-clause-store g c = c.in-Ok.ensures.cause.later

pub returns-in-Err-clause-saved : goal.returns-in-Err-clause-saved
returns-in-Err-clause-saved g c = record {
  result = Err c.in-Err.error;
  saved = c.in-Err.ensures.saved;
  failed = c.in-Err.ensures.cause.cause;
  told = c.tell_unsaved.ensures.tells;
}

pub returns-in-Err-clause-store : goal.returns-in-Err-clause-store
returns-in-Err-clause-store g c = c.in-Err.ensures.cause.later

pub returns-in-Err-clause-write_fault : goal.returns-in-Err-clause-write_fault
returns-in-Err-clause-write_fault g c = c.tell_unsaved.ensures.cause
