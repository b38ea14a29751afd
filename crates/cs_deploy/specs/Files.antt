-- The files that commands take, each by its name.
use Rattle.std.specs.Prelude.{ℕ, Bool, false, ◌||◌, List, [], ◌∷◌, ◌++◌, Ok, Err, if◌then◌else◌}
use Rattle.cs_base.specs.declared.config.Config.{Config}
use Rattle.cs_base.specs.declared.node_id.NodeId.{NodeId}
use Rattle.cs_base.specs.NodeId.{is_node, is_client}
use Rattle.cs_io.specs.Store.{Files}
use Rattle.cs_config.specs.declared.site.Site.{Site}
use Rattle.cs_config.specs.declared.plan.Plan.{Plan}
use Rattle.cs_config.specs.declared.error.FileField.TheVariants as field
use Rattle.cs_config.specs.Site.{site_of_file}
use Rattle.cs_config.specs.Plan.{plan_of}
use Rattle.cs_config.specs.File.{keys_of}
use Rattle.cs_types.specs.Accepting.{is_refused}
use Rattle.cs_approve.specs.Books.{contracts_of}
use Rattle.cs_tx.specs.GenesisNames.{is_known, genesis_names}
use Rattle.cs_wire.specs.declared.keys.Keys.{Keys}
use Rattle.cs_deploy.specs.declared.cause.Cause.TheVariants as cause
use Rattle.cs_deploy.specs.declared.keys.Role.{Role}
use Rattle.cs_deploy.specs.declared.keys.Role.TheVariants as role
use Rattle.cs_deploy.specs.declared.setups.Setup.{Setup}
use Rattle.cs_deploy.specs.Taking.{Taken, ◌>>=◌, bytes_taken, read_as}

-- ---- a site, and a plan

abbrev pub site_taken : List ℕ → Files → Taken Site
site_taken name files = do
  bytes ← bytes_taken name files
  read_as name (site_of_file bytes)

abbrev pub plan_taken : List ℕ → Files → Taken Plan
plan_taken name files = do
  bytes ← bytes_taken name files
  read_as name (plan_of bytes)

-- a plan, and then the site that it names
abbrev pub cluster_taken : List ℕ → Files → Taken (Plan × Site)
cluster_taken name files = do
  plan ← plan_taken name files
  site ← site_taken plan.site files
  Ok (plan, site)

-- ---- the contracts of a site

-- a text that is a contract, and is accepted
abbrev pub accepted_text : List ℕ → List ℕ → Taken (List ℕ)
accepted_text name text = if is_refused text then Err (name, cause.Contract) else Ok text

abbrev pub text_taken : List ℕ → Files → Taken (List ℕ)
text_taken name files = do
  text ← bytes_taken name files
  accepted_text name text

-- those of these names, one after the other
abbrev pub texts_taken : List (List ℕ) → Files → Taken (List (List ℕ))
texts_taken [] files = Ok []
texts_taken (name ∷ names) files = do
  text ← text_taken name files
  texts ← texts_taken names files
  Ok (text ∷ texts)

-- ---- the genesis objects of a site

-- one of the names is among those before it
abbrev pub repeats : List (List ℕ) → List (List ℕ) → Bool
repeats before [] = false
repeats before (name ∷ names) = is_known name before || repeats (before ++ name ∷ []) names

-- no two of the objects have one key, of whatever shard
abbrev pub keys_apart : List ℕ → Site → Taken Unit
keys_apart name site = if repeats [] (genesis_names 0 site.genesis) then Err (name, cause.Key) else Ok tt

-- ---- keys

abbrev pub is_right : Role → Config → NodeId → Bool
is_right role.Node config me = is_node config me
is_right role.Client config me = is_client me

abbrev pub right_keys : Role → Config → List ℕ → Keys → Taken Keys
right_keys r config name keys = if is_right r config keys.me then Ok keys else Err (name, cause.Limit field.Me)

-- the keys of one in this role
abbrev pub keys_taken : Role → Config → List ℕ → Files → Taken Keys
keys_taken r config name files = do
  bytes ← bytes_taken name files
  keys ← read_as name (keys_of config bytes)
  right_keys r config name keys

-- ---- what a node or a client is set up by

-- the site, its contracts, a look at its genesis, and the keys
abbrev pub setup_taken : Role → List ℕ → List ℕ → Files → Taken Setup
setup_taken r site_name keys_name files = do
  site ← site_taken site_name files
  texts ← texts_taken site.contracts files
  apart ← keys_apart site_name site
  keys ← keys_taken r site.config keys_name files
  Ok (record { site = site; book = contracts_of texts; keys = keys })
