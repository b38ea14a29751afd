-- The hosts file of a node or a client, where one is named: it is taken last of its files.
use Rattle.std.specs.Prelude.{◌≡◌, ◌⊎◌, ℕ, List, Option, Some, None, Ok, Err}
use Rattle.cs_base.specs.declared.config.Config.{Config}
use Rattle.cs_io.specs.Store.{Files}
use Rattle.cs_config.specs.Hosts.{hosts_of}
use Rattle.cs_config.specs.declared.call.CallFile.{CallFile}
use Rattle.cs_config.specs.declared.hosts.Hosts.{Hosts}
use Rattle.cs_deploy.specs.declared.keys.Role.TheVariants as role
use Rattle.cs_deploy.specs.declared.setups.Setup.{Setup}
use Rattle.cs_deploy.specs.Taking.{Taken, ◌>>=◌, FilesCome, bytes_taken, read_as}
use Rattle.cs_deploy.specs.Files.{setup_taken}
use Rattle.cs_deploy.specs.Calls.{ClientComes}

-- what the file of this name says, for a configuration
abbrev pub hosts_in_file : Config → List ℕ → Files → Taken Hosts
hosts_in_file config name files = do
  bytes ← bytes_taken name files
  read_as name (hosts_of config bytes)

-- that, where a file is named
abbrev pub hosts_taken : Config → Option (List ℕ) → Files → Taken (Option Hosts)
hosts_taken config None files = Ok None
hosts_taken config (Some name) files = do
  hosts ← hosts_in_file config name files
  Ok (Some hosts)

-- what other files come to, and then the hosts file, for the configuration that they gave
abbrev pub ThenHosts : {A : Type 0} → (A → Config) → Option (List ℕ) → (Files → Taken A → Type 0) → Files
    → Taken (A × Option Hosts) → Type 0
ThenHosts {A} config_of name Come files (Ok (x, hosts)) =
    Come files (Ok x) × (hosts_taken (config_of x) name files ≡ Ok hosts)
ThenHosts {A} config_of name Come files (Err refusal) =
    Come files (Err refusal) ⊎ ((x : A) × Come files (Ok x) × (hosts_taken (config_of x) name files ≡ Err refusal))

-- what the files of a node come to: its setup, and where all are
abbrev pub NodeFilesCome : List ℕ → List ℕ → Option (List ℕ) → Files → Taken (Setup × Option Hosts) → Type 0
NodeFilesCome site keys hosts =
    ThenHosts (λ setup. setup.site.config) hosts (FilesCome (setup_taken role.Node site keys))

-- those of a client: its setup with its call, and where all are
abbrev pub ClientFilesCome : List ℕ → List ℕ → List ℕ → Option (List ℕ) → Files
    → Taken ((Setup × CallFile) × Option Hosts) → Type 0
ClientFilesCome site keys call hosts = ThenHosts (λ both. both.0.site.config) hosts (ClientComes site keys call)
