use Rattle.std.proofs.Common.{◌≡◌, ◌∙◌, sym, subst}
use Rattle.cs_node_state.specs.Setup.{concerned}
use Rattle.cs_sbac.specs.Held.{Held, IsFit}
use Rattle.cs_node_pool.specs.Deployed.{deployed_setup}
use Rattle.cs_node_pool.proofs.Concerned.{concerned-session}
use Rattle.cs_sbac.proofs.Settings.{formed}
use Rattle.cs_sbac.proofs.sbac.Sbac.concerned_of_fit.Goals as goal

pub formed_shards-requires : goal.formed_shards-requires
formed_shards-requires c =
    let Fits : Held → Type 0 = λ held. IsFit held c.args.session.now in
    formed c.self.inside.config c.self.inside.me.shard c.args.session.now (subst Fits (sym c.self.view_is) c.requires)

pub returns : goal.returns
returns c genesis approves =
    let Says : Held → Type 0 = λ held. c.in_ok-shards.shards.items ≡ concerned (deployed_setup held.config genesis approves) c.args.session.now in
    subst Says c.self.view_is
    (c.in_ok-shards.ensures ∙ sym (concerned-session c.self.inside.config genesis approves c.args.session.now))
