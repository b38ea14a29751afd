use Rattle.std.proofs.Common.{◌∙◌, ap, Some}
use Rattle.cs_tx.specs.Sessions.{ledger_session}
use Rattle.cs_node_state.specs.Bench.{own_pool}
use Rattle.cs_sbac.specs.Calls.{placed}
use Rattle.cs_sbac.proofs.Running.{voted-run}
use Rattle.cs_sbac.proofs.execution.prepare.Goals as goal

pub returns-clause-runs : goal.returns-clause-runs
returns-clause-runs c approves =
    voted-run c.args.me c.args.session.now (ledger_session approves c.args.session.now) c.args.table.now c.prepare.new.self c.args.pool.now.sessions c.place_voted.new.pool.sessions
    c.in_ok-vote.field-0.vote c.in_ok-vote.field-0.locked (c.in_ok-vote.ensures.vote approves) (c.in_ok-vote.ensures.locks approves)
    (c.in_ok-place_voted.ensures.sessions ∙ ap (λ d. own_pool c.args.me d (Some (c.in_ok-vote.field-0.vote, c.in_ok-vote.field-0.locked)) (placed c.in_ok-vote.field-0.locked d c.args.session.now c.args.pool.now.sessions)) c.requires.named)
