use Rattle.std.proofs.Common.{◌∙◌, ap, sym}
use Rattle.cs_tx.specs.Digest.{digest_of_session}
use Rattle.cs_tx_types.specs.Session.{session_in}
use Rattle.cs_node_pool.specs.Deployed.{deployed_setup}
use Rattle.cs_audit.specs.Committed.{commits}
use Rattle.cs_audit.proofs.Supporting.{commits-all}
use Rattle.cs_audit.proofs.history.commits.Goals as goal

pub returns-in_ok-shards-in-Prepare : goal.returns-in_ok-shards-in-Prepare
returns-in_ok-shards-in-Prepare c objects approves logs keeps =
    c.all_commit.ensures
    ∙ commits-all c.args.config.now objects approves logs c.args.votes.now keeps c.in-Prepare.session _ c.args.digest
    (c.as_slice.ensures.value ∙ c.in_ok-shards-in-Prepare.ensures) (c.requires.named ∙ ap (λ entry. digest_of_session (session_in entry)) c.in-Prepare.is)
    ∙ ap (commits (deployed_setup c.args.config.now objects approves) logs) (sym c.in-Prepare.is)
