use Rattle.std.proofs.Common.{◌≡◌, false, Option, Some, None, IfSome, refl, sym, ap, subst, ◌∙◌}
use Rattle.std.proofs.lemmas.Result.{IfOk-weaker}
use Rattle.cs_base.specs.declared.version.Version.{Version}
use Rattle.cs_tx_types.specs.declared.entry.Entry.{Entry}
use Rattle.cs_tx_types.specs.Entry.{EntryFits}
use Rattle.cs_node_state.specs.Setup.{Setup}
use Rattle.cs_node_state.specs.Admission.{admits}
use Rattle.cs_node_rules.specs.Deployment.{entry_read, entry_or_void}
use Rattle.cs_node_rules.proofs.Entries.{actions-fit}
use Rattle.cs_node_pool.specs.Deployed.{deployed_setup}
use Rattle.cs_node.proofs.engine.admits_proposed.Goals as goal

pub returns-in-None-clause-admits : goal.returns-in-None-clause-admits
returns-in-None-clause-admits g c genesis =
    let held = c.args.sbac.now in
    let setup : Setup = deployed_setup held.config genesis (g.J.Judge.is_approved c.args.judge.now) in
    let none : None ≡ entry_read setup.version c.args.proposed.now = sym c.in-None.is ∙ c.in_ok-read_entry.ensures.found ∙ ap (λ (version : Version). entry_read version c.args.proposed.now) c.version.ensures in
    let no : false ≡ admits setup held.me.shard held.pool (entry_or_void None) = refl in
    no ∙ ap (λ o. admits setup held.me.shard held.pool (entry_or_void o)) none

pub returns-in-Some-clause-admits : goal.returns-in-Some-clause-admits
returns-in-Some-clause-admits g c genesis =
    let held = c.args.sbac.now in
    let setup : Setup = deployed_setup held.config genesis (g.J.Judge.is_approved c.args.judge.now) in
    let some : Some c.in-Some.entry ≡ entry_read setup.version c.args.proposed.now = sym c.in-Some.is ∙ c.in_ok-read_entry.ensures.found ∙ ap (λ (version : Version). entry_read version c.args.proposed.now) c.version.ensures in
    IfOk-weaker c.admits.result _ _
    (λ yes is. is ∙ ap (λ o. admits setup held.me.shard held.pool (entry_or_void o)) some)
    (c.admits.ensures.admits genesis)

pub admits-requires : goal.admits-requires
admits-requires g c =
    actions-fit c.version.result c.in-Some.entry (subst (λ (found : Option Entry). IfSome found (EntryFits c.version.result)) c.in-Some.is c.in_ok-read_entry.ensures.fits)
