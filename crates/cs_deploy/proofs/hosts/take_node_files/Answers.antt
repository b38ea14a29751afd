use Rattle.std.specs.Prelude.{option_copied}
use Rattle.std.proofs.Common.{Ok, Err}
use Rattle.cs_deploy.specs.declared.keys.Role.TheVariants.{Node}
use Rattle.cs_deploy.specs.declared.setups.Setup.{Setup}
use Rattle.cs_deploy.specs.Taking.{FilesCome}
use Rattle.cs_deploy.specs.Files.{setup_taken}
use Rattle.cs_deploy.specs.Hosts.{hosts_taken, NodeFilesCome}
use Rattle.cs_deploy.proofs.Steps.{back, gave}
use Rattle.cs_deploy.proofs.Hosted.{others-not, then-hosts-not, then-hosts-ok, steady-setup}
use Rattle.cs_deploy.proofs.hosts.take_node_files.Goals as goal

pub returns-in_err-setup-clause-taken : goal.returns-in_err-setup-clause-taken
returns-in_err-setup-clause-taken g c =
    let a = g.E.Store.files c.args.store.now in
    let site = c.args.site_name.now in
    let keys = c.args.keys_name.now in
    let name = option_copied c.args.hosts_name in
    let why = c.in_err-setup.field-0.0 in
    gave (NodeFilesCome site keys name) a why c.from_residual.result c.from_residual.ensures.1
    (others-not (λ (setup : Setup). setup.site.config) name (FilesCome (setup_taken Node site keys)) a why c.in_err-setup.ensures.taken)

pub returns-in_err-hosts-clause-taken : goal.returns-in_err-hosts-clause-taken
returns-in_err-hosts-clause-taken g c =
    let a = g.E.Store.files c.args.store.now in
    let b = g.E.Store.files c.take_node.new.store in
    let site = c.args.site_name.now in
    let keys = c.args.keys_name.now in
    let name = option_copied c.args.hosts_name in
    let setup = c.in_ok-setup.setup in
    let why = c.in_err-hosts.field-0.0 in
    gave (NodeFilesCome site keys name) a why c.from_residual-in_err-hosts.result c.from_residual-in_err-hosts.ensures.1
    (then-hosts-not (λ (setup : Setup). setup.site.config) name (FilesCome (setup_taken Node site keys)) (steady-setup Node site keys) a setup why c.in_ok-setup.ensures.taken
    (back (FilesCome (hosts_taken setup.site.config name)) a b (Err why) c.in_ok-setup.ensures.kept c.in_err-hosts.ensures.taken))

pub returns-clause-taken : goal.returns-clause-taken
returns-clause-taken g c =
    let a = g.E.Store.files c.args.store.now in
    let b = g.E.Store.files c.take_node.new.store in
    let site = c.args.site_name.now in
    let keys = c.args.keys_name.now in
    let name = option_copied c.args.hosts_name in
    let setup = c.in_ok-setup.setup in
    let hosts = c.in_ok-hosts.hosts in
    then-hosts-ok (λ (setup : Setup). setup.site.config) name (FilesCome (setup_taken Node site keys)) a setup hosts c.in_ok-setup.ensures.taken
    (back (FilesCome (hosts_taken setup.site.config name)) a b (Ok hosts) c.in_ok-setup.ensures.kept c.in_ok-hosts.ensures.taken)
