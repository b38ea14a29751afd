use Rattle.std.specs.Prelude.{option_copied}
use Rattle.std.proofs.Common.{Ok, Err, sym, ◌∙◌}
use Rattle.cs_deploy.specs.declared.keys.Role.TheVariants.{Client}
use Rattle.cs_deploy.specs.Taking.{FilesCome}
use Rattle.cs_deploy.specs.Files.{keys_taken}
use Rattle.cs_deploy.specs.Hosts.{hosts_taken}
use Rattle.cs_deploy.specs.Show.{show_taken}
use Rattle.cs_deploy.proofs.Steps.{back, gave}
use Rattle.cs_deploy.proofs.Shown.{show-no-site, show-no-shard, show-no-keys, show-no-hosts, show-ok}
use Rattle.cs_deploy.proofs.shows.take_shown.Goals as goal

pub returns-in_err-site-clause-taken : goal.returns-in_err-site-clause-taken
returns-in_err-site-clause-taken g c =
    let a = g.E.Store.files c.args.store.now in
    let why = c.in_err-site.field-0.0 in
    gave (FilesCome (show_taken c.args.site_name.now c.args.keys_name.now (option_copied c.args.hosts_name) c.args.key)) a why c.from_residual.result c.from_residual.ensures.1
    (show-no-site c.args.site_name.now c.args.keys_name.now (option_copied c.args.hosts_name) c.args.key a why c.in_err-site.ensures.taken)

pub returns-then-not-has_shard-clause-taken : goal.returns-then-not-has_shard-clause-taken
returns-then-not-has_shard-clause-taken g c =
    show-no-shard c.args.site_name.now c.args.keys_name.now (option_copied c.args.hosts_name) c.args.key (g.E.Store.files c.args.store.now) c.in_ok-site.site c.in_ok-site.ensures.taken
    (sym c.has_shard.ensures ∙ c.if-not-has_shard.true)

pub returns-in_err-keys-clause-taken : goal.returns-in_err-keys-clause-taken
returns-in_err-keys-clause-taken g c =
    let a = g.E.Store.files c.args.store.now in
    let b = g.E.Store.files c.take_site.new.store in
    let site = c.in_ok-site.site in
    let why = c.in_err-keys.field-0.0 in
    gave (FilesCome (show_taken c.args.site_name.now c.args.keys_name.now (option_copied c.args.hosts_name) c.args.key)) a why c.from_residual-in_err-keys.result c.from_residual-in_err-keys.ensures.1
    (show-no-keys c.args.site_name.now c.args.keys_name.now (option_copied c.args.hosts_name) c.args.key a site c.in_ok-site.ensures.taken
    (sym c.has_shard.ensures ∙ c.if-not-has_shard.false) why
    (back (FilesCome (keys_taken Client site.config c.args.keys_name.now)) a b (Err why) c.in_ok-site.ensures.kept c.in_err-keys.ensures.taken))

pub returns-in_err-hosts-clause-taken : goal.returns-in_err-hosts-clause-taken
returns-in_err-hosts-clause-taken g c =
    let a = g.E.Store.files c.args.store.now in
    let b = g.E.Store.files c.take_site.new.store in
    let d = g.E.Store.files c.take_keys.new.store in
    let name = option_copied c.args.hosts_name in
    let site = c.in_ok-site.site in
    let keys = c.in_ok-keys.keys in
    let why = c.in_err-hosts.field-0.0 in
    gave (FilesCome (show_taken c.args.site_name.now c.args.keys_name.now name c.args.key)) a why c.from_residual-in_err-hosts.result c.from_residual-in_err-hosts.ensures.1
    (show-no-hosts c.args.site_name.now c.args.keys_name.now name c.args.key a site c.in_ok-site.ensures.taken
    (sym c.has_shard.ensures ∙ c.if-not-has_shard.false) keys
    (back (FilesCome (keys_taken Client site.config c.args.keys_name.now)) a b (Ok keys) c.in_ok-site.ensures.kept c.in_ok-keys.ensures.taken) why
    (back (FilesCome (hosts_taken site.config name)) a b (Err why) c.in_ok-site.ensures.kept
    (back (FilesCome (hosts_taken site.config name)) b d (Err why) c.in_ok-keys.ensures.kept c.in_err-hosts.ensures.taken)))

pub returns-clause-taken : goal.returns-clause-taken
returns-clause-taken g c =
    let a = g.E.Store.files c.args.store.now in
    let b = g.E.Store.files c.take_site.new.store in
    let d = g.E.Store.files c.take_keys.new.store in
    let name = option_copied c.args.hosts_name in
    let site = c.in_ok-site.site in
    let keys = c.in_ok-keys.keys in
    let hosts = c.in_ok-hosts.hosts in
    show-ok c.args.site_name.now c.args.keys_name.now name c.args.key a site c.in_ok-site.ensures.taken
    (sym c.has_shard.ensures ∙ c.if-not-has_shard.false) keys
    (back (FilesCome (keys_taken Client site.config c.args.keys_name.now)) a b (Ok keys) c.in_ok-site.ensures.kept c.in_ok-keys.ensures.taken) hosts
    (back (FilesCome (hosts_taken site.config name)) a b (Ok hosts) c.in_ok-site.ensures.kept
    (back (FilesCome (hosts_taken site.config name)) b d (Ok hosts) c.in_ok-keys.ensures.kept c.in_ok-hosts.ensures.taken))
