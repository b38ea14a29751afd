use Rattle.std.specs.Prelude.{option_copied}
use Rattle.std.proofs.Common.{Ok, Err}
use Rattle.cs_config.specs.declared.call.CallFile.{CallFile}
use Rattle.cs_deploy.specs.declared.setups.Setup.{Setup}
use Rattle.cs_deploy.specs.Taking.{FilesCome}
use Rattle.cs_deploy.specs.Calls.{ClientComes}
use Rattle.cs_deploy.specs.Hosts.{hosts_taken, ClientFilesCome}
use Rattle.cs_deploy.proofs.Steps.{back, gave}
use Rattle.cs_deploy.proofs.Hosted.{others-not, then-hosts-not, then-hosts-ok, steady-client}
use Rattle.cs_deploy.proofs.hosts.take_client_files.Goals as goal

pub returns-in_err-both-clause-taken : goal.returns-in_err-both-clause-taken
returns-in_err-both-clause-taken g c =
    let a = g.E.Store.files c.args.store.now in
    let site = c.args.site_name.now in
    let keys = c.args.keys_name.now in
    let call = c.args.call_name.now in
    let name = option_copied c.args.hosts_name in
    let why = c.in_err-both.field-0.0 in
    gave (ClientFilesCome site keys call name) a why c.from_residual.result c.from_residual.ensures.1
    (others-not (λ (both : Setup × CallFile). both.0.site.config) name (ClientComes site keys call) a why c.in_err-both.ensures.taken)

pub returns-in_err-hosts-clause-taken : goal.returns-in_err-hosts-clause-taken
returns-in_err-hosts-clause-taken g c =
    let a = g.E.Store.files c.args.store.now in
    let b = g.E.Store.files c.take_client.new.store in
    let site = c.args.site_name.now in
    let keys = c.args.keys_name.now in
    let call = c.args.call_name.now in
    let name = option_copied c.args.hosts_name in
    let both = c.in_ok-both.both in
    let why = c.in_err-hosts.field-0.0 in
    gave (ClientFilesCome site keys call name) a why c.from_residual-in_err-hosts.result c.from_residual-in_err-hosts.ensures.1
    (then-hosts-not (λ (both : Setup × CallFile). both.0.site.config) name (ClientComes site keys call) (steady-client site keys call) a both why c.in_ok-both.ensures.taken
    (back (FilesCome (hosts_taken both.0.site.config name)) a b (Err why) c.in_ok-both.ensures.kept c.in_err-hosts.ensures.taken))

pub returns-clause-taken : goal.returns-clause-taken
returns-clause-taken g c =
    let a = g.E.Store.files c.args.store.now in
    let b = g.E.Store.files c.take_client.new.store in
    let site = c.args.site_name.now in
    let keys = c.args.keys_name.now in
    let call = c.args.call_name.now in
    let name = option_copied c.args.hosts_name in
    let both = c.in_ok-both.both in
    let hosts = c.in_ok-hosts.hosts in
    then-hosts-ok (λ (both : Setup × CallFile). both.0.site.config) name (ClientComes site keys call) a both hosts c.in_ok-both.ensures.taken
    (back (FilesCome (hosts_taken both.0.site.config name)) a b (Ok hosts) c.in_ok-both.ensures.kept c.in_ok-hosts.ensures.taken)
