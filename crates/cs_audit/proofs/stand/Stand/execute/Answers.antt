use Rattle.std.proofs.Common.{true}
use Rattle.cs_tx_types.specs.Session.{session_in}
use Rattle.cs_audit.proofs.Executing.{anchored, executes}
use Rattle.cs_audit.proofs.stand.Stand.execute.Goals as goal

pub act-requires-clause-anchored : goal.act-requires-clause-anchored
act-requires-clause-anchored c = anchored c.args.self.now c.requires.placed (λ tx. true) (session_in c.args.entry.now) c.requires.anchored

pub returns : goal.returns
returns c genesis approves =
    executes c.args.self.now c.requires.placed genesis approves c.args.entry.now c.act.new.table c.in_ok-effect.effect (c.requires.fit genesis approves)
    c.root_is_shown.ensures.keys c.root_is_shown-2.ensures.keys (c.in_ok-effect.ensures approves)
