use Rattle.std.proofs.Common.{List, ℕ, Err, subst}
use Rattle.cs_config.specs.Hosts.{hosts_of}
use Rattle.cs_config.specs.Reading.{FileGives}
use Rattle.cs_deploy.specs.Taking.{FilesCome}
use Rattle.cs_deploy.specs.Hosts.{hosts_in_file}
use Rattle.cs_deploy.proofs.Steps.{gave}
use Rattle.cs_deploy.proofs.Takes.{file-absent, file-unread}
use Rattle.cs_deploy.proofs.hosts.take_file.Goals as goal

pub returns-in_err-bytes-clause-taken : goal.returns-in_err-bytes-clause-taken
returns-in_err-bytes-clause-taken g c =
    let a = g.E.Store.files c.args.store.now in
    let config = c.args.config.now in
    let why = c.in_err-bytes.field-0.0 in
    gave (FilesCome (hosts_in_file config c.args.name.now)) a why c.from_residual.result c.from_residual.ensures.1
    (file-absent (hosts_of config) c.args.name.now a why c.in_err-bytes.ensures.taken)

pub returns-clause-taken : goal.returns-clause-taken
returns-clause-taken g c =
    let config = c.args.config.now in
    file-unread (hosts_of config) c.args.name.now (g.E.Store.files c.args.store.now) c.in_ok-bytes.bytes c.in-Err.error c.unread.result
    c.in_ok-bytes.ensures.taken (subst (λ (bytes : List ℕ). FileGives (Err c.in-Err.error) (hosts_of config bytes)) c.as_slice.ensures c.in-Err.ensures) c.unread.ensures.told c.unread.ensures.fault
