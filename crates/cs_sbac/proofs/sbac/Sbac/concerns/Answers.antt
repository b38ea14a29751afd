use Rattle.std.proofs.Common.{◌≡◌, ◌∙◌, sym, subst}
use Rattle.cs_node_state.specs.Setup.{is_concerned_shard}
use Rattle.cs_tx.specs.Uses as Uses
use Rattle.cs_sbac.specs.Held.{Held, IsFit}
use Rattle.cs_node_pool.specs.Deployed.{deployed_setup}
use Rattle.cs_node_pool.proofs.Concerned.{concerns-session}
use Rattle.cs_sbac.proofs.Settings.{formed, some_anchor}
use Rattle.cs_sbac.proofs.sbac.Sbac.concerns.Goals as goal

pub anchor-requires : goal.anchor-requires
anchor-requires c =
    let Fits : Held → Type 0 = λ held. IsFit held c.args.session.now in
    formed c.self.inside.config c.self.inside.me.shard c.args.session.now (subst Fits (sym c.self.view_is) c.requires)

pub returns : goal.returns
returns c genesis approves =
    let Says : Held → Type 0 = λ held. c.is_some.result ≡ is_concerned_shard (deployed_setup held.config genesis approves) c.args.session.now c.args.shard in
    subst Says c.self.view_is
    (c.is_some.ensures
    ∙ some_anchor c.anchor.result (Uses.concerns c.self.inside.config c.args.session.now c.args.shard) c.anchor.ensures.concerned
    ∙ sym (concerns-session c.self.inside.config genesis approves c.args.session.now c.args.shard))
