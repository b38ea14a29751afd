use Rattle.std.proofs.Common.{◌∙◌, List, ℕ, Err, sym, ap, subst}
use Rattle.cs_config.specs.Site.{site_of_file}
use Rattle.cs_config.proofs.First.{site_first}
use Rattle.cs_config.specs.Reading.{FileGives}
use Rattle.cs_deploy.specs.Taking.{FilesCome}
use Rattle.cs_deploy.specs.Files.{site_taken}
use Rattle.cs_deploy.proofs.Steps.{gave}
use Rattle.cs_deploy.proofs.Takes.{file-absent, file-unread}
use Rattle.cs_deploy.proofs.sites.take_site.Goals as goal

pub returns-in_err-bytes-clause-taken : goal.returns-in_err-bytes-clause-taken
returns-in_err-bytes-clause-taken g c =
    let a = g.E.Store.files c.args.store.now in
    let why = c.in_err-bytes.field-0.0 in
    gave (FilesCome (site_taken c.args.name.now)) a why c.from_residual.result c.from_residual.ensures.1
    (file-absent site_of_file c.args.name.now a why c.in_err-bytes.ensures.taken)

pub returns-clause-taken : goal.returns-clause-taken
returns-clause-taken g c =
    file-unread site_of_file c.args.name.now (g.E.Store.files c.args.store.now) c.in_ok-bytes.bytes c.in-Err.error c.unread.result
    c.in_ok-bytes.ensures.taken (subst (λ (bytes : List ℕ). FileGives (Err c.in-Err.error) (site_of_file bytes)) c.as_slice.ensures c.in-Err.ensures.given) c.unread.ensures.told c.unread.ensures.fault

pub returns-in-Ok-clause-version : goal.returns-in-Ok-clause-version
returns-in-Ok-clause-version g c =
    site_first c.in_ok-bytes.bytes c.in-Ok.site (ap site_of_file (sym c.as_slice.ensures) ∙ c.in-Ok.ensures.given)
