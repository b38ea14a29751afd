use Rattle.std.specs.Prelude.{option_copied}
use Rattle.std.proofs.Common.{ℕ, List, Option, Some, None, Ok, Err, sym, ap, subst}
use Rattle.cs_deploy.specs.Taking.{TakesFiles, FilesCome}
use Rattle.cs_deploy.specs.Hosts.{hosts_taken}
use Rattle.cs_deploy.proofs.Steps.{gave}
use Rattle.cs_deploy.proofs.Hosted.{hosts-none, hosts-not, hosts-ok}
use Rattle.cs_deploy.proofs.hosts.take_hosts.Goals as goal

pub returns-in-None-clause-taken : goal.returns-in-None-clause-taken
returns-in-None-clause-taken g c =
    let a = g.E.Store.files c.args.store.now in
    subst (λ (name : Option (List ℕ)). TakesFiles (FilesCome (hosts_taken c.args.config.now name)) a (Ok None)) (sym (ap option_copied c.in-None.is))
    (hosts-none c.args.config.now a)

pub returns-in_err-hosts-in-Some-clause-taken : goal.returns-in_err-hosts-in-Some-clause-taken
returns-in_err-hosts-in-Some-clause-taken g c =
    let a = g.E.Store.files c.args.store.now in
    let config = c.args.config.now in
    let why = c.in_err-hosts-in-Some.field-0.0 in
    gave (FilesCome (hosts_taken config (option_copied c.args.name))) a why c.from_residual.result c.from_residual.ensures.1
    (subst (λ (name : Option (List ℕ)). TakesFiles (FilesCome (hosts_taken config name)) a (Err why)) (sym (ap option_copied c.in-Some.is))
    (hosts-not config c.in-Some.name.now a why c.in_err-hosts-in-Some.ensures.taken))

pub returns-in_ok-hosts-in-Some-clause-taken : goal.returns-in_ok-hosts-in-Some-clause-taken
returns-in_ok-hosts-in-Some-clause-taken g c =
    let a = g.E.Store.files c.args.store.now in
    let config = c.args.config.now in
    subst (λ (name : Option (List ℕ)). TakesFiles (FilesCome (hosts_taken config name)) a (Ok (Some c.in_ok-hosts-in-Some.hosts))) (sym (ap option_copied c.in-Some.is))
    (hosts-ok config c.in-Some.name.now a c.in_ok-hosts-in-Some.hosts c.in_ok-hosts-in-Some.ensures.taken)
