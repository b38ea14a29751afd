use Rattle.cs_audit.proofs.Starting.{started}
use Rattle.cs_audit.proofs.stand.Stand.new.Goals as goal

pub returns-in_ok-chain-in-Ok-clause-stand : goal.returns-in_ok-chain-in-Ok-clause-stand
returns-in_ok-chain-in-Ok-clause-stand c objects approves named =
    started c.args.config objects approves c.args.genesis.now (record { config = c.args.config; shard = c.args.shard; table = c.in-Ok.table; chain = c.in_ok-chain-in-Ok.chain }) c.args.shard named
    c.in-Ok.ensures.table c.root_is_shown.ensures.keys
