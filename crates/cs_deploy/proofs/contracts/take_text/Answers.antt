use Rattle.std.proofs.Common.{◌≡◌, None, sym, ap, subst, ◌∙◌}
use Rattle.std.specs.Prelude.{is_none}
use Rattle.cs_types.specs.Accepting.{accepted_of, Unaccepts}
use Rattle.cs_types.specs.declared.judging.Unjudged.{Unjudged}
use Rattle.cs_deploy.specs.declared.cause.Cause.TheVariants as cause
use Rattle.cs_deploy.specs.Taking.{FilesCome}
use Rattle.cs_deploy.specs.Files.{text_taken}
use Rattle.cs_deploy.proofs.Steps.{gave, never-fault}
use Rattle.cs_deploy.proofs.Texts.{text-accepted, text-refused, text-not}
use Rattle.cs_deploy.proofs.contracts.take_text.Goals as goal

pub returns-in_err-text-clause-taken : goal.returns-in_err-text-clause-taken
returns-in_err-text-clause-taken g c =
    let a = g.E.Store.files c.args.store.now in
    let why = c.in_err-text.field-0.0 in
    gave (FilesCome (text_taken c.args.name.now)) a why c.from_residual.result c.from_residual.ensures.1
    (text-not c.args.name.now a why c.in_err-text.ensures.taken)

pub returns-in-Ok-clause-taken : goal.returns-in-Ok-clause-taken
returns-in-Ok-clause-taken g c =
    text-accepted c.args.name.now c.in_ok-text.text (g.E.Store.files c.args.store.now) c.in_ok-text.ensures.taken
    (ap is_none (sym (ap accepted_of c.as_slice.ensures) ∙ c.in-Ok.ensures.exact))

pub returns-in-Err-Faulty-clause-taken : goal.returns-in-Err-Faulty-clause-taken
returns-in-Err-Faulty-clause-taken g c =
    let none : accepted_of c.as_slice.result.now ≡ None =
    subst (λ (why : Unjudged). Unaccepts why (accepted_of c.as_slice.result.now)) c.in-Err-Faulty.field-0-is c.in-Err-Faulty.ensures.exact in
    text-refused c.args.name.now c.in_ok-text.text (g.E.Store.files c.args.store.now) c.refused.result c.in_ok-text.ensures.taken
    (ap is_none (sym (ap accepted_of c.as_slice.ensures) ∙ none)) c.refused.ensures.told
    (never-fault cause.Contract c.refused.result (λ e. absurd cc) c.refused.ensures.fault)
