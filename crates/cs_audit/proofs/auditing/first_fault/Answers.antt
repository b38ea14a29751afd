use Rattle.std.proofs.Common.{◌≡◌, ◌∙◌, Option, None, Result, Ok, Err, IfOk, sym, ap, subst}
use Rattle.cs_base.specs.Options.{or_else}
use Rattle.cs_node_state.specs.Setup.{Setup}
use Rattle.cs_node_pool.specs.Deployed.{deployed_setup}
use Rattle.cs_audit_rules.specs.declared.verdict.Fault.{Fault}
use Rattle.cs_audit_rules.specs.Slots.{logs_fault}
use Rattle.cs_audit_rules.specs.Support.{support_fault}
use Rattle.cs_audit_rules.specs.Verdicts.{told_fault}
use Rattle.cs_audit.specs.declared.logs.Executed.{Executed}
use Rattle.cs_audit.specs.Kept.{TellsFirstFault}
use Rattle.cs_audit.proofs.auditing.first_fault.Goals as goal

-- behind no first fault the first is that of the rest
behind-none : {E : Type 0} (r : Result (Option Fault) E) (first rest : Option Fault) → first ≡ None → IfOk r (λ fault. fault ≡ rest) → IfOk r (λ fault. fault ≡ or_else first rest)
behind-none (Ok fault) first rest none told = told ∙ sym (ap (λ (o : Option Fault). or_else o rest) none)
behind-none (Err e) first rest none told = tt

pub first_disagreement-requires-clause-named : goal.first_disagreement-requires-clause-named
first_disagreement-requires-clause-named g c =
    let setup : Setup = deployed_setup c.args.dump.now.config c.args.dump.now.genesis (g.J.Judge.is_approved c.args.judge.now) in
    let T : Result Executed Fault → Type 0 = λ r. TellsFirstFault setup c.args.dump.now.logs r in
    let tells = subst T c.in-Ok.is c.in_ok-executed.ensures in
    tells.1

pub returns-in-Ok : goal.returns-in-Ok
returns-in-Ok g c =
    let approves = g.J.Judge.is_approved c.args.judge.now in
    let setup : Setup = deployed_setup c.args.dump.now.config c.args.dump.now.genesis approves in
    let T : Result Executed Fault → Type 0 = λ r. TellsFirstFault setup c.args.dump.now.logs r in
    let tells = subst T c.in-Ok.is c.in_ok-executed.ensures in
    let rest : Option Fault = or_else (support_fault setup c.args.dump.now.logs 0 c.args.dump.now.logs) (told_fault setup c.args.dump.now) in
    behind-none c.first_disagreement.result (logs_fault setup 0 c.args.dump.now.logs) rest tells.0 (c.first_disagreement.ensures approves tells.0 tells.2)

pub returns : goal.returns
returns g c =
    let approves = g.J.Judge.is_approved c.args.judge.now in
    let setup : Setup = deployed_setup c.args.dump.now.config c.args.dump.now.genesis approves in
    let T : Result Executed Fault → Type 0 = λ r. TellsFirstFault setup c.args.dump.now.logs r in
    let tells = subst T c.in-Err.is c.in_ok-executed.ensures in
    let rest : Option Fault = or_else (support_fault setup c.args.dump.now.logs 0 c.args.dump.now.logs) (told_fault setup c.args.dump.now) in
    sym (ap (λ (o : Option Fault). or_else o rest) tells)
