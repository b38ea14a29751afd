use Rattle.std.proofs.Common.{◌∙◌, Option, sym, ap}
use Rattle.std.proofs.lemmas.Result.{IfOk-weaker}
use Rattle.cs_base.specs.Options.{or_else}
use Rattle.cs_node_state.specs.Setup.{Setup}
use Rattle.cs_node_pool.specs.Deployed.{deployed_setup}
use Rattle.cs_audit_rules.specs.declared.verdict.Fault.{Fault}
use Rattle.cs_audit_rules.specs.Verdicts.{told_fault}
use Rattle.cs_audit.proofs.auditing.first_disagreement.Goals as goal

pub returns-in-Some : goal.returns-in-Some
returns-in-Some c approves none keeps =
    let setup : Setup = deployed_setup c.args.dump.now.config c.args.dump.now.genesis approves in
    ap (λ (o : Option Fault). or_else o (told_fault setup c.args.dump.now)) (sym c.in-Some.is ∙ c.in_ok-fault.ensures c.args.dump.now.genesis approves keeps)

pub returns-in-None : goal.returns-in-None
returns-in-None c approves none keeps =
    let setup : Setup = deployed_setup c.args.dump.now.config c.args.dump.now.genesis approves in
    IfOk-weaker c.first_untold.result _ _
    (λ fault told. told ∙ ap (λ (o : Option Fault). or_else o (told_fault setup c.args.dump.now)) (sym c.in-None.is ∙ c.in_ok-fault.ensures c.args.dump.now.genesis approves keeps))
    (c.first_untold.ensures approves none keeps)
