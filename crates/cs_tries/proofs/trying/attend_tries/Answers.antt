use Rattle.cs_io.specs.Outside.{beside}
use Rattle.cs_tries.specs.Tries.{try_begun}
use Rattle.cs_tries.proofs.TryRuns.{tries-nothing}
use Rattle.cs_tries.proofs.trying.attend_tries.Goals as goal

pub returns-in-Ok-clause-attends : goal.returns-in-Ok-clause-attends
returns-in-Ok-clause-attends g c = λ e stands open_yet. c.attend_noted.ensures.attends e (c.in-Ok.ensures e stands) open_yet

pub returns-in-Err-clause-attends : goal.returns-in-Err-clause-attends
returns-in-Err-clause-attends g c = λ e stands open_yet.
    tries-nothing (try_begun c.args.details e c.args.tries) c.args.until (beside (g.L.Link.told c.args.link.now) (g.K.Sink.written c.args.out.now))
