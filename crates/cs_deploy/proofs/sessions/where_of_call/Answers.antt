use Rattle.std.proofs.Common.{sym, ◌∙◌}
use Rattle.cs_deploy.proofs.Resumed.{formed-of}
use Rattle.cs_deploy.proofs.sessions.where_of_call.Goals as goal

pub returns-then-ours-clause-formed : goal.returns-then-ours-clause-formed
returns-then-ours-clause-formed c = formed-of c.args.config.now c.args.number c.args.session (sym c.in_ok-ours.ensures ∙ c.if-ours.true)
