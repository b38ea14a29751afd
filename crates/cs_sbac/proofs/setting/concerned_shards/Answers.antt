use Rattle.std.proofs.Common.{◌∙◌, sym}
use Rattle.cs_node_pool.proofs.Concerned.{concerned-session}
use Rattle.cs_sbac.proofs.setting.concerned_shards.Goals as goal

pub returns-then-known : goal.returns-then-known
returns-then-known c genesis approves =
    c.in_ok-shards.ensures ∙ sym (concerned-session c.args.config.now genesis approves c.args.session.now)

pub returns : goal.returns
returns c genesis approves =
    c.in_ok-shards-2.ensures ∙ sym (concerned-session c.args.config.now genesis approves c.args.session.now)
