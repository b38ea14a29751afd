use Rattle.std.proofs.Common.{◌≡◌, ℕ, true, false, List, [], Ok, Err, sym, subst, ◌∙◌}
use Rattle.cs_tx_value.specs.declared.object.Object.{Object}
use Rattle.cs_tx.specs.GenesisNames.{genesis_names}
use Rattle.cs_io.specs.laws.Told.{stays-both}
use Rattle.cs_deploy.specs.declared.cause.Cause.TheVariants as cause
use Rattle.cs_deploy.specs.Taking.{TakesFiles, FilesCome}
use Rattle.cs_deploy.specs.Files.{texts_taken, keys_taken, repeats, setup_taken}
use Rattle.cs_deploy.proofs.Steps.{back, gave, memory-told, never-fault}
use Rattle.cs_deploy.proofs.Takes.{setup-no-site, setup-no-texts, setup-twice, setup-no-keys}
use Rattle.cs_deploy.proofs.setups.take_setup.Goals as goal

pub returns-in_err-site-clause-taken : goal.returns-in_err-site-clause-taken
returns-in_err-site-clause-taken g c =
    let a = g.E.Store.files c.args.store.now in
    let why = c.in_err-site.field-0.0 in
    gave (FilesCome (setup_taken c.args.role c.args.site_name.now c.args.keys_name.now)) a why c.from_residual.result c.from_residual.ensures.1
    (setup-no-site c.args.role c.args.site_name.now c.args.keys_name.now a why c.in_err-site.ensures.taken)

pub returns-in_err-texts-clause-taken : goal.returns-in_err-texts-clause-taken
returns-in_err-texts-clause-taken g c =
    let a = g.E.Store.files c.args.store.now in
    let b = g.E.Store.files c.take_site.new.store in
    let site = c.in_ok-site.site in
    let why = c.in_err-texts.field-0.0 in
    gave (FilesCome (setup_taken c.args.role c.args.site_name.now c.args.keys_name.now)) a why c.from_residual-in_err-texts.result c.from_residual-in_err-texts.ensures.1
    (setup-no-texts c.args.role c.args.site_name.now c.args.keys_name.now a site c.in_ok-site.ensures.taken why
    (back (FilesCome (texts_taken site.contracts)) a b (Err why) c.in_ok-site.ensures.kept
    (subst (λ (names : List (List ℕ)). TakesFiles (FilesCome (texts_taken names)) b (Err why)) c.as_slice.ensures c.in_err-texts.ensures.taken)))

pub returns-in_err-has_twice-clause-taken : goal.returns-in_err-has_twice-clause-taken
returns-in_err-has_twice-clause-taken g c =
    memory-told (FilesCome (setup_taken c.args.role c.args.site_name.now c.args.keys_name.now)) (g.E.Store.files c.args.store.now)
    c.from_residual-in_err-has_twice.result c.from_residual-in_err-has_twice.ensures.1

pub returns-then-branch-clause-taken : goal.returns-then-branch-clause-taken
returns-then-branch-clause-taken g c =
    let a = g.E.Store.files c.args.store.now in
    let b = g.E.Store.files c.take_site.new.store in
    let site = c.in_ok-site.site in
    let texts = c.in_ok-texts.texts in
    setup-twice c.args.role c.args.site_name.now c.args.keys_name.now a site c.in_ok-site.ensures.taken texts
    (back (FilesCome (texts_taken site.contracts)) a b (Ok texts) c.in_ok-site.ensures.kept
    (subst (λ (names : List (List ℕ)). TakesFiles (FilesCome (texts_taken names)) b (Ok texts)) c.as_slice.ensures c.in_ok-texts.ensures.taken))
    c.refused.result
    (subst (λ (objects : List Object). repeats [] (genesis_names 0 objects) ≡ true) c.as_slice-2.ensures (sym c.in_ok-has_twice.ensures.found ∙ c.if-branch.true))
    c.refused.ensures.told (never-fault cause.Key c.refused.result (λ e. absurd cc) c.refused.ensures.fault)

pub returns-in_err-keys-clause-taken : goal.returns-in_err-keys-clause-taken
returns-in_err-keys-clause-taken g c =
    let a = g.E.Store.files c.args.store.now in
    let b = g.E.Store.files c.take_site.new.store in
    let d = g.E.Store.files c.take_texts.new.store in
    let site = c.in_ok-site.site in
    let texts = c.in_ok-texts.texts in
    let why = c.in_err-keys.field-0.0 in
    gave (FilesCome (setup_taken c.args.role c.args.site_name.now c.args.keys_name.now)) a why c.from_residual-in_err-keys.result c.from_residual-in_err-keys.ensures.1
    (setup-no-keys c.args.role c.args.site_name.now c.args.keys_name.now a site c.in_ok-site.ensures.taken texts
    (back (FilesCome (texts_taken site.contracts)) a b (Ok texts) c.in_ok-site.ensures.kept
    (subst (λ (names : List (List ℕ)). TakesFiles (FilesCome (texts_taken names)) b (Ok texts)) c.as_slice.ensures c.in_ok-texts.ensures.taken))
    (subst (λ (objects : List Object). repeats [] (genesis_names 0 objects) ≡ false) c.as_slice-2.ensures (sym c.in_ok-has_twice.ensures.found ∙ c.if-branch.false))
    why
    (back (FilesCome (keys_taken c.args.role site.config c.args.keys_name.now)) a d (Err why)
    (stays-both a b d c.in_ok-site.ensures.kept c.in_ok-texts.ensures.kept) c.in_err-keys.ensures.taken))

pub returns-in_err-book-clause-taken : goal.returns-in_err-book-clause-taken
returns-in_err-book-clause-taken g c =
    memory-told (FilesCome (setup_taken c.args.role c.args.site_name.now c.args.keys_name.now)) (g.E.Store.files c.args.store.now)
    c.from_residual-in_err-book.result c.from_residual-in_err-book.ensures.1
