use Rattle.cs_sbac.proofs.Settings.{formed-held, formed-entering}
use Rattle.cs_sbac.proofs.sbac.Sbac.enter.Goals as goal

pub formed_shards-requires : goal.formed_shards-requires
formed_shards-requires c = formed-held _ _ c.self.view_is c.args.session c.requires.formed

pub push-requires-clause-formed : goal.push-requires-clause-formed
push-requires-clause-formed c =
    formed-entering _ _ c.self.view_is c.args.session c.requires.formed c.self.inside.pool.config c.newcomer.result c.self.invariant.same c.newcomer.ensures
