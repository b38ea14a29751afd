use Rattle.std.proofs.Common.{ℕ, List, Err, sym, ap, subst, ◌∙◌}
use Rattle.cs_config.specs.Reading.{FileGives}
use Rattle.cs_config.specs.File.{keys_of}
use Rattle.cs_config.proofs.First.{file_first}
use Rattle.cs_config.specs.declared.error.FileField.TheVariants as field
use Rattle.cs_deploy.specs.declared.cause.Cause.TheVariants as cause
use Rattle.cs_deploy.specs.Taking.{FilesCome}
use Rattle.cs_deploy.specs.Files.{is_right, keys_taken}
use Rattle.cs_deploy.proofs.Steps.{gave, never-fault}
use Rattle.cs_deploy.proofs.Takes.{keys-absent, keys-unread, keys-wrong, keys-ok}
use Rattle.cs_deploy.proofs.keys.take_keys.Goals as goal

pub returns-in_err-bytes-clause-taken : goal.returns-in_err-bytes-clause-taken
returns-in_err-bytes-clause-taken g c =
    let a = g.E.Store.files c.args.store.now in
    let config = c.args.site.now.config in
    let why = c.in_err-bytes.field-0.0 in
    gave (FilesCome (keys_taken c.args.role config c.args.name.now)) a why c.from_residual.result c.from_residual.ensures.1
    (keys-absent c.args.role config c.args.name.now a why c.in_err-bytes.ensures.taken)

pub returns-in-Err-clause-taken : goal.returns-in-Err-clause-taken
returns-in-Err-clause-taken g c =
    let config = c.args.site.now.config in
    keys-unread c.args.role config c.args.name.now (g.E.Store.files c.args.store.now) c.in_ok-bytes.bytes c.in-Err.error c.unread.result c.in_ok-bytes.ensures.taken
    (subst (λ (bytes : List ℕ). FileGives (Err c.in-Err.error) (keys_of config bytes)) c.as_slice.ensures c.in-Err.ensures) c.unread.ensures.told c.unread.ensures.fault

pub returns-then-not-is_right-clause-taken : goal.returns-then-not-is_right-clause-taken
returns-then-not-is_right-clause-taken g c =
    let config = c.args.site.now.config in
    let keys = c.in-Ok.keys in
    keys-wrong c.args.role config c.args.name.now (g.E.Store.files c.args.store.now) c.in_ok-bytes.bytes keys c.refused.result c.in_ok-bytes.ensures.taken
    (ap (keys_of config) (sym c.as_slice.ensures) ∙ c.in-Ok.ensures)
    (ap (is_right c.args.role config) (sym c.me.ensures) ∙ sym c.is_right.ensures ∙ c.if-not-is_right.true) c.refused.ensures.told
    (never-fault (cause.Limit field.Me) c.refused.result (λ e. absurd cc) c.refused.ensures.fault)

pub returns-clause-taken : goal.returns-clause-taken
returns-clause-taken g c =
    let config = c.args.site.now.config in
    let keys = c.in-Ok.keys in
    keys-ok c.args.role config c.args.name.now (g.E.Store.files c.args.store.now) c.in_ok-bytes.bytes keys c.in_ok-bytes.ensures.taken
    (ap (keys_of config) (sym c.as_slice.ensures) ∙ c.in-Ok.ensures)
    (ap (is_right c.args.role config) (sym c.me.ensures) ∙ sym c.is_right.ensures ∙ c.if-not-is_right.false)

pub returns-clause-first : goal.returns-clause-first
returns-clause-first g c =
    let config = c.args.site.now.config in
    file_first config c.in_ok-bytes.bytes c.in-Ok.keys (ap (keys_of config) (sym c.as_slice.ensures) ∙ c.in-Ok.ensures)
