-- The hosts file, behind the other files of a node or a client.
use Rattle.std.proofs.Common.{◌≡◌, ◌⊎◌, inl, inr, ℕ, List, Option, Some, None, Ok, Err, refl, sym, subst, ◌∙◌}
use Rattle.cs_base.specs.declared.config.Config.{Config}
use Rattle.cs_io.specs.Store.{Files}
use Rattle.cs_config.specs.Hosts.{hosts_of}
use Rattle.cs_config.specs.declared.hosts.Hosts.{Hosts}
use Rattle.cs_deploy.specs.declared.cause.Cause.TheVariants as cause
use Rattle.cs_deploy.specs.declared.cause.Untaken.{Untaken}
use Rattle.cs_deploy.specs.declared.keys.Role.{Role}
use Rattle.cs_deploy.specs.declared.keys.Role.TheVariants.{Client}
use Rattle.cs_deploy.specs.declared.setups.Setup.{Setup}
use Rattle.cs_deploy.specs.Taking.{Taken, without_file, TakesFiles, FilesCome, bytes_taken}
use Rattle.cs_deploy.specs.Files.{setup_taken}
use Rattle.cs_deploy.specs.Calls.{CallOf, CallComes, ThenCall, ClientComes}
use Rattle.cs_deploy.specs.Hosts.{hosts_in_file, hosts_taken, ThenHosts}
use Rattle.cs_deploy.proofs.Steps.{first-not, then-next, takes-ok, refusal-so, Stable, stable-same, stable-then, stable-bytes}
use Rattle.cs_deploy.proofs.Takes.{file-stable, stable-setup}

-- ---- the file

module _ (config : Config) (name : List ℕ) (a : Option Files) where
  pub hosts-not : (why : Untaken) → TakesFiles (FilesCome (hosts_in_file config name)) a (Err why) → TakesFiles (FilesCome (hosts_taken config (Some name))) a (Err why)
  hosts-not = first-not (hosts_in_file config name) (λ files hosts. Ok (Some hosts)) a

  pub hosts-ok : (hosts : Hosts) → TakesFiles (FilesCome (hosts_in_file config name)) a (Ok hosts) → TakesFiles (FilesCome (hosts_taken config (Some name))) a (Ok (Some hosts))
  hosts-ok hosts first =
      then-next (hosts_in_file config name) (λ files hosts. Ok (Some hosts)) a hosts (Ok (Some hosts)) (file-stable (hosts_of config) name) first
      (takes-ok (λ (outcome : Taken (Option Hosts)). Ok (Some hosts) ≡ outcome) a (Some hosts) refl)

-- none is named
pub hosts-none : (config : Config) (a : Option Files) → TakesFiles (FilesCome (hosts_taken config None)) a (Ok None)
hosts-none config a = takes-ok (λ (outcome : Taken (Option Hosts)). Ok None ≡ outcome) a None refl

pub stable-hosts : (config : Config) (name : Option (List ℕ)) → Stable (hosts_taken config name)
stable-hosts config None = stable-same (Ok None)
stable-hosts config (Some name) = stable-then (hosts_in_file config name) (λ files hosts. Ok (Some hosts)) (file-stable (hosts_of config) name) (λ hosts. stable-same (Ok (Some hosts)))

-- ---- the other files, and then this one

-- where a file of these isn't there, that is told, or nothing changes
abbrev pub Steady : {A : Type 0} → (Files → Taken A → Type 0) → Type 0
Steady {A} Come = (gone : List ℕ) (files : Files) (x : A) → Come files (Ok x) → Come (without_file gone files) (Ok x) ⊎ Come (without_file gone files) (Err (gone, cause.Absent))

module _ {A : Type 0} (config_of : A → Config) (name : Option (List ℕ)) (Come : Files → Taken A → Type 0) where
  pub others-not : (a : Option Files) (why : Untaken) → TakesFiles Come a (Err why) → TakesFiles (ThenHosts config_of name Come) a (Err why)
  others-not None why takes = tt
  others-not (Some files) why takes = refusal-so Come (ThenHosts config_of name Come) files (λ told so. inl so) (λ gone so. inl so) why takes

  pub then-hosts-not : Steady Come → (a : Option Files) (x : A) (why : Untaken) → TakesFiles Come a (Ok x) → TakesFiles (FilesCome (hosts_taken (config_of x) name)) a (Err why) → TakesFiles (ThenHosts config_of name Come) a (Err why)
  then-hosts-not steady None x why first later = tt
  then-hosts-not steady (Some files) x why first later =
      refusal-so (FilesCome (hosts_taken (config_of x) name)) (ThenHosts config_of name Come) files (λ told so. inr (x, first, so))
      (λ gone so. elim (steady gone files x first) [
        | inl still ↦ inr (x, still, so)
        | inr absent ↦ inl absent
      ]) why later

  pub then-hosts-ok : (a : Option Files) (x : A) (hosts : Option Hosts) → TakesFiles Come a (Ok x) → TakesFiles (FilesCome (hosts_taken (config_of x) name)) a (Ok hosts) → TakesFiles (ThenHosts config_of name Come) a (Ok (x, hosts))
  then-hosts-ok None x hosts first later = tt
  then-hosts-ok (Some files) x hosts first later = (first, later)

-- ---- a node's, and a client's

pub steady-setup : (r : Role) (site keys : List ℕ) → Steady (FilesCome (setup_taken r site keys))
steady-setup r site keys gone files setup is = elim (stable-setup r site keys gone files) [
  | inl same ↦ inl (same ∙ is)
  | inr absent ↦ inr absent
]

pub steady-client : (site keys call : List ℕ) → Steady (ClientComes site keys call)
steady-client site keys call gone files both is = by (setup_taken Client site keys files) (setup_taken Client site keys (without_file gone files)) (stable-setup Client site keys gone files) is
  where
    call-by : (t now : Taken (List ℕ)) → (now ≡ t) ⊎ (now ≡ Err (gone, cause.Absent)) → CallOf call t (Ok both.1) → CallOf call now (Ok both.1) ⊎ CallOf call now (Err (gone, cause.Absent))
    call-by t now (inl same) so = inl (subst (λ (u : Taken (List ℕ)). CallOf call u (Ok both.1)) (sym same) so)
    call-by t now (inr absent) so = inr (subst (λ (u : Taken (List ℕ)). CallOf call u (Err (gone, cause.Absent))) (sym absent) refl)

    behind : (setup : Setup) → ThenCall (Ok setup) (CallComes call files) (Ok both) → ThenCall (Ok setup) (CallComes call (without_file gone files)) (Ok both) ⊎ ThenCall (Ok setup) (CallComes call (without_file gone files)) (Err (gone, cause.Absent))
    behind setup so = elim (call-by (bytes_taken call files) (bytes_taken call (without_file gone files)) (stable-bytes call gone files) so.1) [
      | inl still ↦ inl (so.0, still)
      | inr absent ↦ inr absent
    ]

    same-by : (t : Taken Setup) → ThenCall t (CallComes call files) (Ok both) → ThenCall t (CallComes call (without_file gone files)) (Ok both) ⊎ ThenCall t (CallComes call (without_file gone files)) (Err (gone, cause.Absent))
    same-by (Ok setup) so = behind setup so
    same-by (Err refusal) so = absurd (cc)

    by : (t now : Taken Setup) → (now ≡ t) ⊎ (now ≡ Err (gone, cause.Absent)) → ThenCall t (CallComes call files) (Ok both) → ThenCall now (CallComes call (without_file gone files)) (Ok both) ⊎ ThenCall now (CallComes call (without_file gone files)) (Err (gone, cause.Absent))
    by t now (inl same) so = subst (λ (u : Taken Setup). ThenCall u (CallComes call (without_file gone files)) (Ok both) ⊎ ThenCall u (CallComes call (without_file gone files)) (Err (gone, cause.Absent))) (sym same) (same-by t so)
    by t now (inr absent) so = inr (subst (λ (u : Taken Setup). ThenCall u (CallComes call (without_file gone files)) (Err (gone, cause.Absent))) (sym absent) refl)
