-- What each command takes, file after file.
use Rattle.std.proofs.Common.{◌≡◌, inl, inr, ℕ, ◌<◌, length, Bool, true, false, List, [], Option, Some, None, Result, Ok, Err, refl, sym, ap, subst, ◌∙◌}
use Rattle.std.specs.Prelude.{IfSome, IsSomeAnd, if◌then◌else◌}
use Rattle.std.proofs.lemmas.Bool.{lt-ltb}
use Rattle.cs_base.specs.declared.config.Config.{Config}
use Rattle.cs_io.specs.Store.{Files}
use Rattle.cs_config.specs.declared.site.Site.{Site}
use Rattle.cs_config.specs.declared.plan.Plan.{Plan}
use Rattle.cs_config.specs.declared.call.CallFile.{CallFile}
use Rattle.cs_config.specs.declared.error.FileField.TheVariants as field
use Rattle.cs_config.specs.Site.{site_of_file}
use Rattle.cs_config.specs.Plan.{plan_of}
use Rattle.cs_config.specs.File.{keys_of}
use Rattle.cs_config.specs.Reading.{FileGives}
use Rattle.cs_config.specs.declared.error.ConfigError.{ConfigError}
use Rattle.cs_wire.specs.declared.keys.Keys.{Keys}
use Rattle.cs_tx.specs.GenesisNames.{genesis_names}
use Rattle.cs_approve.specs.Books.{contracts_of}
use Rattle.cs_deploy.specs.declared.cause.Cause.{Cause}
use Rattle.cs_deploy.specs.declared.cause.Cause.TheVariants as cause
use Rattle.cs_deploy.specs.declared.cause.Untaken.{Untaken}
use Rattle.cs_deploy.specs.declared.keys.Role.{Role}
use Rattle.cs_deploy.specs.declared.keys.Role.TheVariants.{Client}
use Rattle.cs_deploy.specs.declared.setups.Setup.{Setup}
use Rattle.cs_deploy.specs.declared.loading.TheConstants.{MOST_FILE}
use Rattle.cs_deploy.specs.Taking.{Taken, ◌>>=◌, content_taken, without_file, IsStoreFault, TakesFiles, FilesCome, bytes_taken, cause_of_config, read_as}
use Rattle.cs_deploy.specs.Refusing.{Refuses}
use Rattle.cs_deploy.specs.Files.{site_taken, plan_taken, cluster_taken, texts_taken, repeats, keys_apart, is_right, right_keys, keys_taken, setup_taken}
use Rattle.cs_deploy.specs.Calls.{CallComes, ThenCall, ClientComes}
use Rattle.cs_deploy.proofs.Steps.{refusal, refusal-fault, load-may-fail, first-not, then-next, takes-ok, takes-not, refusal-so, Stable, stable-same, stable-then, stable-bytes, unread-not, read-ok}
use Rattle.cs_deploy.proofs.Texts.{stable-texts}

-- ---- a load

module _ (name : List ℕ) (a : Option Files) (why : Untaken) where
  pub load-absent : IfSome a (λ content_of. content_of name ≡ None) → Refuses name cause.Absent why → (IsStoreFault why → ⊥) → TakesFiles (FilesCome (bytes_taken name)) a (Err why)
  load-absent is told sound = by a is
    where
      by : (a : Option Files) → IfSome a (λ content_of. content_of name ≡ None) → TakesFiles (FilesCome (bytes_taken name)) a (Err why)
      by None is = tt
      by (Some files) is = refusal (FilesCome (bytes_taken name)) files name cause.Absent why sound (ap (content_taken name) is) told

  too-long : (content : Option (List ℕ)) → IsSomeAnd content (λ bytes. MOST_FILE < length bytes) → content_taken name content ≡ Err (name, cause.TooLong)
  too-long None is = absurd is
  too-long (Some bytes) is = ap (λ (b : Bool). if b then Err (name, cause.TooLong) else Ok bytes) (lt-ltb MOST_FILE (length bytes) is)

  pub load-long : IfSome a (λ content_of. IsSomeAnd (content_of name) (λ bytes. MOST_FILE < length bytes)) → Refuses name cause.TooLong why → (IsStoreFault why → ⊥) → TakesFiles (FilesCome (bytes_taken name)) a (Err why)
  load-long is told sound = by a is
    where
      by : (a : Option Files) → IfSome a (λ content_of. IsSomeAnd (content_of name) (λ bytes. MOST_FILE < length bytes)) → TakesFiles (FilesCome (bytes_taken name)) a (Err why)
      by None is = tt
      by (Some files) is = refusal (FilesCome (bytes_taken name)) files name cause.TooLong why sound (too-long (files name) is) told

  pub load-fault : Refuses name cause.Fault why → TakesFiles (FilesCome (bytes_taken name)) a (Err why)
  load-fault told = by a
    where
      by : (a : Option Files) → TakesFiles (FilesCome (bytes_taken name)) a (Err why)
      by None = tt
      by (Some files) = refusal-fault (FilesCome (bytes_taken name)) files name why (load-may-fail name files) told

-- ---- a file that is read

module _ {A : Type 0} (of : List ℕ → Result A ConfigError) (name : List ℕ) (a : Option Files) where
  abbrev pub file-read : Files → Taken A
  file-read files = bytes_taken name files >>= λ bytes. read_as name (of bytes)

  pub file-absent : (why : Untaken) → TakesFiles (FilesCome (bytes_taken name)) a (Err why) → TakesFiles (FilesCome file-read) a (Err why)
  file-absent = first-not (bytes_taken name) (λ files bytes. read_as name (of bytes)) a

  pub file-unread : (bytes : List ℕ) (error : ConfigError) (why : Untaken) → TakesFiles (FilesCome (bytes_taken name)) a (Ok bytes) → FileGives (Err error) (of bytes) → Refuses name (cause_of_config error) why → (IsStoreFault why → ⊥)
      → TakesFiles (FilesCome file-read) a (Err why)
  file-unread bytes error why first is told sound =
      then-next (bytes_taken name) (λ files bytes. read_as name (of bytes)) a bytes (Err why) (stable-bytes name) first (unread-not name (of bytes) a error why is told sound)

  pub file-ok : (bytes : List ℕ) (x : A) → TakesFiles (FilesCome (bytes_taken name)) a (Ok bytes) → of bytes ≡ Ok x → TakesFiles (FilesCome file-read) a (Ok x)
  file-ok bytes x first is =
      then-next (bytes_taken name) (λ files bytes. read_as name (of bytes)) a bytes (Ok x) (stable-bytes name) first (read-ok name (of bytes) a x is)

pub file-stable : {A : Type 0} (of : List ℕ → Result A ConfigError) (name : List ℕ) → Stable (λ files. bytes_taken name files >>= λ bytes. read_as name (of bytes))
file-stable of name = stable-then (bytes_taken name) (λ files bytes. read_as name (of bytes)) (stable-bytes name) (λ bytes. stable-same (read_as name (of bytes)))

-- ---- a plan, and its site

module _ (name : List ℕ) (a : Option Files) where
  pub no-plan : (why : Untaken) → TakesFiles (FilesCome (plan_taken name)) a (Err why) → TakesFiles (FilesCome (cluster_taken name)) a (Err why)
  no-plan = first-not (plan_taken name) (λ files plan. site_taken plan.site files >>= λ site. Ok (plan, site)) a

  with-plan : (plan : Plan) (result : Result (Plan × Site) Untaken) → TakesFiles (FilesCome (plan_taken name)) a (Ok plan) → TakesFiles (FilesCome (λ files. site_taken plan.site files >>= λ site. Ok (plan, site))) a result
      → TakesFiles (FilesCome (cluster_taken name)) a result
  with-plan plan result = then-next (plan_taken name) (λ files plan. site_taken plan.site files >>= λ site. Ok (plan, site)) a plan result (file-stable plan_of name)

  pub no-site : (plan : Plan) (why : Untaken) → TakesFiles (FilesCome (plan_taken name)) a (Ok plan) → TakesFiles (FilesCome (site_taken plan.site)) a (Err why) → TakesFiles (FilesCome (cluster_taken name)) a (Err why)
  no-site plan why first later = with-plan plan (Err why) first (first-not (site_taken plan.site) (λ files site. Ok (plan, site)) a why later)

  pub both-taken : (plan : Plan) (site : Site) → TakesFiles (FilesCome (plan_taken name)) a (Ok plan) → TakesFiles (FilesCome (site_taken plan.site)) a (Ok site) → TakesFiles (FilesCome (cluster_taken name)) a (Ok (plan, site))
  both-taken plan site first later =
      with-plan plan (Ok (plan, site)) first
      (then-next (site_taken plan.site) (λ files site. Ok (plan, site)) a site (Ok (plan, site)) (file-stable site_of_file plan.site) later
      (takes-ok (λ (outcome : Taken (Plan × Site)). Ok (plan, site) ≡ outcome) a (plan, site) refl))

-- ---- keys

module _ (r : Role) (config : Config) (name : List ℕ) where
  abbrev readable : List ℕ → Taken Keys
  readable bytes = read_as name (keys_of config bytes) >>= right_keys r config name

  pub stable-keys : Stable (keys_taken r config name)
  stable-keys = stable-then (bytes_taken name) (λ files bytes. readable bytes) (stable-bytes name) (λ bytes. stable-same (readable bytes))

  module _ (a : Option Files) where
    pub keys-absent : (why : Untaken) → TakesFiles (FilesCome (bytes_taken name)) a (Err why) → TakesFiles (FilesCome (keys_taken r config name)) a (Err why)
    keys-absent = first-not (bytes_taken name) (λ files bytes. readable bytes) a

    with-bytes : (bytes : List ℕ) (result : Result Keys Untaken) → TakesFiles (FilesCome (bytes_taken name)) a (Ok bytes) → TakesFiles (FilesCome (λ files. readable bytes)) a result → TakesFiles (FilesCome (keys_taken r config name)) a result
    with-bytes bytes result = then-next (bytes_taken name) (λ files bytes. readable bytes) a bytes result (stable-bytes name)

    pub keys-unread : (bytes : List ℕ) (error : ConfigError) (why : Untaken) → TakesFiles (FilesCome (bytes_taken name)) a (Ok bytes) → FileGives (Err error) (keys_of config bytes) → Refuses name (cause_of_config error) why → (IsStoreFault why → ⊥)
        → TakesFiles (FilesCome (keys_taken r config name)) a (Err why)
    keys-unread bytes error why first is told sound =
        with-bytes bytes (Err why) first
        (first-not (λ files. read_as name (keys_of config bytes)) (λ files. right_keys r config name) a why (unread-not name (keys_of config bytes) a error why is told sound))

    judged : (bytes : List ℕ) (keys : Keys) (result : Result Keys Untaken) → keys_of config bytes ≡ Ok keys → TakesFiles (FilesCome (λ files. right_keys r config name keys)) a result → TakesFiles (FilesCome (λ files. readable bytes)) a result
    judged bytes keys result is =
        then-next (λ files. read_as name (keys_of config bytes)) (λ files. right_keys r config name) a keys result (stable-same (read_as name (keys_of config bytes))) (read-ok name (keys_of config bytes) a keys is)

    pub keys-wrong : (bytes : List ℕ) (keys : Keys) (why : Untaken) → TakesFiles (FilesCome (bytes_taken name)) a (Ok bytes) → keys_of config bytes ≡ Ok keys → is_right r config keys.me ≡ false → Refuses name (cause.Limit field.Me) why → (IsStoreFault why → ⊥)
        → TakesFiles (FilesCome (keys_taken r config name)) a (Err why)
    keys-wrong bytes keys why first is wrong told sound =
        with-bytes bytes (Err why) first (judged bytes keys (Err why) is
        (takes-not (λ (outcome : Taken Keys). right_keys r config name keys ≡ outcome) a name (cause.Limit field.Me) why sound
        (ap (λ (b : Bool). if b then Ok keys else Err (name, cause.Limit field.Me)) wrong) told))

    pub keys-ok : (bytes : List ℕ) (keys : Keys) → TakesFiles (FilesCome (bytes_taken name)) a (Ok bytes) → keys_of config bytes ≡ Ok keys → is_right r config keys.me ≡ true → TakesFiles (FilesCome (keys_taken r config name)) a (Ok keys)
    keys-ok bytes keys first is right =
        with-bytes bytes (Ok keys) first (judged bytes keys (Ok keys) is
        (takes-ok (λ (outcome : Taken Keys). right_keys r config name keys ≡ outcome) a keys
        (ap (λ (b : Bool). if b then Ok keys else Err (name, cause.Limit field.Me)) right)))

-- ---- a setup

module _ (r : Role) (site_name keys_name : List ℕ) where
  abbrev with_keys : Site → List (List ℕ) → Files → Taken Setup
  with_keys site texts files = keys_taken r site.config keys_name files >>= λ keys. Ok (record { site = site; book = contracts_of texts; keys = keys })

  abbrev with_texts : Site → Files → List (List ℕ) → Taken Setup
  with_texts site files texts = keys_apart site_name site >>= λ apart. with_keys site texts files

  abbrev with_site : Files → Site → Taken Setup
  with_site files site = texts_taken site.contracts files >>= with_texts site files

  stable-with_keys : (site : Site) (texts : List (List ℕ)) → Stable (with_keys site texts)
  stable-with_keys site texts =
      stable-then (keys_taken r site.config keys_name) (λ files keys. Ok (record { site = site; book = contracts_of texts; keys = keys })) (stable-keys r site.config keys_name)
      (λ keys. stable-same (Ok (record { site = site; book = contracts_of texts; keys = keys })))

  pub stable-setup : Stable (setup_taken r site_name keys_name)
  stable-setup =
      stable-then (site_taken site_name) with_site (file-stable site_of_file site_name)
      (λ site. stable-then (texts_taken site.contracts) (with_texts site) (stable-texts site.contracts)
      (λ texts. stable-then (λ files. keys_apart site_name site) (λ files apart. with_keys site texts files) (stable-same (keys_apart site_name site))
      (λ apart. stable-with_keys site texts)))

  module _ (a : Option Files) where
    pub setup-no-site : (why : Untaken) → TakesFiles (FilesCome (site_taken site_name)) a (Err why) → TakesFiles (FilesCome (setup_taken r site_name keys_name)) a (Err why)
    setup-no-site = first-not (site_taken site_name) with_site a

    module _ (site : Site) (first : TakesFiles (FilesCome (site_taken site_name)) a (Ok site)) where
      behind-site : (result : Result Setup Untaken) → TakesFiles (FilesCome (λ files. with_site files site)) a result → TakesFiles (FilesCome (setup_taken r site_name keys_name)) a result
      behind-site result = then-next (site_taken site_name) with_site a site result (file-stable site_of_file site_name) first

      pub setup-no-texts : (why : Untaken) → TakesFiles (FilesCome (texts_taken site.contracts)) a (Err why) → TakesFiles (FilesCome (setup_taken r site_name keys_name)) a (Err why)
      setup-no-texts why later = behind-site (Err why) (first-not (texts_taken site.contracts) (with_texts site) a why later)

      module _ (texts : List (List ℕ)) (second : TakesFiles (FilesCome (texts_taken site.contracts)) a (Ok texts)) where
        behind-texts : (result : Result Setup Untaken) → TakesFiles (FilesCome (λ files. with_texts site files texts)) a result → TakesFiles (FilesCome (setup_taken r site_name keys_name)) a result
        behind-texts result later = behind-site result (then-next (texts_taken site.contracts) (with_texts site) a texts result (stable-texts site.contracts) second later)

        pub setup-twice : (why : Untaken) → repeats [] (genesis_names 0 site.genesis) ≡ true → Refuses site_name cause.Key why → (IsStoreFault why → ⊥) → TakesFiles (FilesCome (setup_taken r site_name keys_name)) a (Err why)
        setup-twice why twice told sound =
            behind-texts (Err why)
            (first-not (λ files. keys_apart site_name site) (λ files apart. with_keys site texts files) a why
            (takes-not (λ (outcome : Taken Unit). keys_apart site_name site ≡ outcome) a site_name cause.Key why sound (ap (λ (b : Bool). if b then Err (site_name, cause.Key) else Ok tt) twice) told))

        module _ (apart : repeats [] (genesis_names 0 site.genesis) ≡ false) where
          behind-apart : (result : Result Setup Untaken) → TakesFiles (FilesCome (with_keys site texts)) a result → TakesFiles (FilesCome (setup_taken r site_name keys_name)) a result
          behind-apart result later =
              behind-texts result
              (then-next (λ files. keys_apart site_name site) (λ files apart. with_keys site texts files) a tt result (stable-same (keys_apart site_name site))
              (takes-ok (λ (outcome : Taken Unit). keys_apart site_name site ≡ outcome) a tt (ap (λ (b : Bool). if b then Err (site_name, cause.Key) else Ok tt) apart)) later)

          pub setup-no-keys : (why : Untaken) → TakesFiles (FilesCome (keys_taken r site.config keys_name)) a (Err why) → TakesFiles (FilesCome (setup_taken r site_name keys_name)) a (Err why)
          setup-no-keys why later =
              behind-apart (Err why) (first-not (keys_taken r site.config keys_name) (λ files keys. Ok (record { site = site; book = contracts_of texts; keys = keys })) a why later)

          pub setup-ok : (keys : Keys) → TakesFiles (FilesCome (keys_taken r site.config keys_name)) a (Ok keys)
              → TakesFiles (FilesCome (setup_taken r site_name keys_name)) a (Ok (record { site = site; book = contracts_of texts; keys = keys }))
          setup-ok keys later =
              let setup : Setup = record { site = site; book = contracts_of texts; keys = keys } in
              behind-apart (Ok setup)
              (then-next (keys_taken r site.config keys_name) (λ files keys. Ok (record { site = site; book = contracts_of texts; keys = keys })) a keys (Ok setup) (stable-keys r site.config keys_name) later
              (takes-ok (λ (outcome : Taken Setup). Ok setup ≡ outcome) a setup refl))

-- ---- a call

module _ (site_name keys_name call_name : List ℕ) where
  abbrev calls : Files → Taken CallFile → Type 0
  calls = CallComes call_name

  pub client-no-setup : (a : Option Files) (why : Untaken) → TakesFiles (FilesCome (setup_taken Client site_name keys_name)) a (Err why) → TakesFiles (ClientComes site_name keys_name call_name) a (Err why)
  client-no-setup None why takes = tt
  client-no-setup (Some files) why takes =
      refusal-so (FilesCome (setup_taken Client site_name keys_name)) (ClientComes site_name keys_name call_name) files
      (λ told so. by (setup_taken Client site_name keys_name files) files told so)
      (λ gone so. by (setup_taken Client site_name keys_name (without_file gone files)) (without_file gone files) (gone, cause.Absent) so) why takes
    where
      by : (t : Taken Setup) (files : Files) (told : List ℕ × Cause) → t ≡ Err told → ThenCall t (calls files) (Err told)
      by t files told is = subst (λ (u : Taken Setup). ThenCall u (calls files) (Err told)) (sym is) refl

  pub client-no-call : (a : Option Files) (setup : Setup) (why : Untaken) → TakesFiles (FilesCome (setup_taken Client site_name keys_name)) a (Ok setup) → TakesFiles (CallComes call_name) a (Err why)
      → TakesFiles (ClientComes site_name keys_name call_name) a (Err why)
  client-no-call None setup why first later = tt
  client-no-call (Some files) setup why first later =
      refusal-so (CallComes call_name) (ClientComes site_name keys_name call_name) files
      (λ told so. subst (λ (t : Taken Setup). ThenCall t (calls files) (Err told)) (sym first) so)
      (λ gone so. elim (stable-setup Client site_name keys_name gone files) [
        | inl same ↦ subst (λ (t : Taken Setup). ThenCall t (calls (without_file gone files)) (Err (gone, cause.Absent))) (sym (same ∙ first)) so
        | inr absent ↦ subst (λ (t : Taken Setup). ThenCall t (calls (without_file gone files)) (Err (gone, cause.Absent))) (sym absent) refl
      ]) why later

  pub client-ok : (a : Option Files) (setup : Setup) (call : CallFile) → TakesFiles (FilesCome (setup_taken Client site_name keys_name)) a (Ok setup) → TakesFiles (CallComes call_name) a (Ok call)
      → TakesFiles (ClientComes site_name keys_name call_name) a (Ok (setup, call))
  client-ok None setup call first later = tt
  client-ok (Some files) setup call first later = subst (λ (t : Taken Setup). ThenCall t (calls files) (Ok (setup, call))) (sym first) (refl, later)
