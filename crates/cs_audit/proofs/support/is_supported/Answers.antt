use Rattle.std.proofs.Common.{◌∙◌, ap, sym}
use Rattle.cs_tx.specs.Uses.{concerned_shards}
use Rattle.cs_tx_types.specs.Session.{session_in}
use Rattle.cs_node_pool.specs.Deployed.{deployed_setup}
use Rattle.cs_audit_rules.specs.Support.{supports}
use Rattle.cs_audit.proofs.Supporting.{commits-all, aborts-one}
use Rattle.cs_audit.proofs.support.is_supported.Goals as goal

pub returns-in_ok-shards-in-Accepted : goal.returns-in_ok-shards-in-Accepted
returns-in_ok-shards-in-Accepted c logs genesis approves keeps =
    c.all_commit.ensures
    ∙ commits-all c.args.config.now genesis approves logs c.args.votes.now keeps (session_in c.args.leaf.now.action) _ c.args.digest
    (c.as_slice.ensures.value ∙ c.in_ok-shards-in-Accepted.ensures ∙ ap (concerned_shards c.args.config.now) c.session.ensures.is) c.requires.named
    ∙ ap (supports (deployed_setup c.args.config.now genesis approves) logs (session_in c.args.leaf.now.action)) (sym c.in-Accepted.is)

pub returns-in_ok-shards-in-Aborted : goal.returns-in_ok-shards-in-Aborted
returns-in_ok-shards-in-Aborted c logs genesis approves keeps =
    c.one_aborts.ensures
    ∙ aborts-one c.args.config.now genesis approves logs c.args.votes.now keeps (session_in c.args.leaf.now.action) _ c.args.digest
    (c.as_slice-in-Aborted.ensures.value ∙ c.in_ok-shards-in-Aborted.ensures ∙ ap (concerned_shards c.args.config.now) c.session-in-Aborted.ensures.is) c.requires.named
    ∙ ap (supports (deployed_setup c.args.config.now genesis approves) logs (session_in c.args.leaf.now.action)) (sym c.in-Aborted.is)
