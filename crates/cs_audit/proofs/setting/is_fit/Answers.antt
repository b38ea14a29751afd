use Rattle.std.proofs.Common.{◌≡◌, true, false, sym, ◌∙◌, rules}
use Rattle.cs_tx.specs.Uses.{concerns}
use Rattle.cs_sbac.proofs.Settings.{fit, some_anchor}
use Rattle.cs_audit.proofs.setting.is_fit.Goals as goal

pub returns-then-not-branch-clause-fit : goal.returns-then-not-branch-clause-fit
returns-then-not-branch-clause-fit c genesis approves =
    let no : c.in_ok-is_well_formed.field-0 ≡ false = search rules in
    fit c.args.config.now genesis approves c.args.session.now c.args.shard false (sym no ∙ c.in_ok-is_well_formed.ensures)

pub returns-clause-fit : goal.returns-clause-fit
returns-clause-fit c genesis approves =
    let yes : c.in_ok-is_well_formed.field-0 ≡ true = search rules in
    c.is_some.ensures
    ∙ some_anchor c.anchor.result (concerns c.args.config.now c.args.session.now c.args.shard) c.anchor.ensures.concerned
    ∙ fit c.args.config.now genesis approves c.args.session.now c.args.shard true (sym yes ∙ c.in_ok-is_well_formed.ensures)
