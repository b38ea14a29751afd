use Rattle.std.proofs.Common.{List, ℕ, Ok, Err, subst}
use Rattle.cs_deploy.specs.Taking.{TakesFiles, FilesCome}
use Rattle.cs_deploy.specs.Files.{site_taken, cluster_taken}
use Rattle.cs_deploy.proofs.Steps.{back, gave}
use Rattle.cs_deploy.proofs.Takes.{no-plan, no-site, both-taken}
use Rattle.cs_deploy.proofs.sites.take_cluster.Goals as goal

pub returns-in_err-plan-clause-taken : goal.returns-in_err-plan-clause-taken
returns-in_err-plan-clause-taken g c =
    let a = g.E.Store.files c.args.store.now in
    let why = c.in_err-plan.field-0.0 in
    gave (FilesCome (cluster_taken c.args.name.now)) a why c.from_residual.result c.from_residual.ensures.1
    (no-plan c.args.name.now a why c.in_err-plan.ensures.taken)

pub returns-in_err-site-clause-taken : goal.returns-in_err-site-clause-taken
returns-in_err-site-clause-taken g c =
    let a = g.E.Store.files c.args.store.now in
    let b = g.E.Store.files c.take_plan.new.store in
    let plan = c.in_ok-plan.plan in
    let why = c.in_err-site.field-0.0 in
    gave (FilesCome (cluster_taken c.args.name.now)) a why c.from_residual-in_err-site.result c.from_residual-in_err-site.ensures.1
    (no-site c.args.name.now a plan why c.in_ok-plan.ensures.taken
    (back (FilesCome (site_taken plan.site)) a b (Err why) c.in_ok-plan.ensures.kept
    (subst (λ (n : List ℕ). TakesFiles (FilesCome (site_taken n)) b (Err why)) c.as_str.ensures c.in_err-site.ensures.taken)))

pub returns-clause-taken : goal.returns-clause-taken
returns-clause-taken g c =
    let a = g.E.Store.files c.args.store.now in
    let b = g.E.Store.files c.take_plan.new.store in
    let plan = c.in_ok-plan.plan in
    let site = c.in_ok-site.site in
    both-taken c.args.name.now a plan site c.in_ok-plan.ensures.taken
    (back (FilesCome (site_taken plan.site)) a b (Ok site) c.in_ok-plan.ensures.kept
    (subst (λ (n : List ℕ). TakesFiles (FilesCome (site_taken n)) b (Ok site)) c.as_str.ensures c.in_ok-site.ensures.taken))
