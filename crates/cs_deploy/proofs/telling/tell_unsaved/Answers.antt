use Rattle.std.proofs.Common.{refl}
use Rattle.cs_deploy.proofs.Answered.{keeps}
use Rattle.cs_deploy.proofs.telling.tell_unsaved.Goals as goal

pub returns-in-Memory-clause-tells : goal.returns-in-Memory-clause-tells
returns-in-Memory-clause-tells g c = rw c.in-Memory.is (refl, keeps (g.K.Sink.written c.args.out.now))
