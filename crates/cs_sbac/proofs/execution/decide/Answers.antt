use Rattle.std.proofs.Common.{◌∙◌, ap}
use Rattle.cs_tx.specs.Sessions.{ledger_session}
use Rattle.cs_sbac.specs.Calls.{left}
use Rattle.cs_sbac.proofs.Running.{decided-run}
use Rattle.cs_sbac.proofs.execution.decide.Goals as goal

pub returns-clause-runs : goal.returns-clause-runs
returns-clause-runs c approves =
    decided-run c.args.me c.args.session.now (ledger_session approves c.args.session.now) c.args.table.now c.decide.new.self c.args.pool.now.sessions c.leave.new.pool.sessions
    c.args.vote c.in_ok-effect.effect (c.in_ok-effect.ensures approves)
    (c.in_ok-leave.ensures.sessions ∙ ap (λ d. left c.in_ok-effect.effect d c.args.pool.now.sessions) c.requires.named)
