-- A site file: the deployment, its port, its contracts' files and its genesis.
use Rattle.std.specs.Prelude.{ℕ, ℤ, List, Result, Ok}
use Rattle.cs_base.specs.Config.{config_of}
use Rattle.cs_base.specs.declared.config.Config.{Config}
use Rattle.cs_base.specs.declared.limits.TheConstants.{MOST_SHARDS, MOST_LIARS, MOST_DUMMIES, MOST_GENESIS}
use Rattle.toml.specs.Data.{Members, as_integer, as_str}
use Rattle.cs_config.specs.Reading.{◌>>=◌, toml_table_of, one_of, each_of, number_between, few_of}
use Rattle.cs_config.specs.Items.{hex_object}
use Rattle.cs_config.specs.declared.limits.TheConstants.{LEAST_BASE_PORT, MOST_BASE_PORT, MOST_CONTRACTS}
use Rattle.cs_config.specs.declared.error.FileField.TheVariants as field
use Rattle.cs_config.specs.declared.error.ConfigError.{ConfigError}
use Rattle.cs_config.specs.declared.site.Site.{Site}
use Rattle.cs_config.specs.declared.site.SiteDraft.{SiteDraft}

-- the fields as they stand there
abbrev pub site_draft_of : Members → Result SiteDraft ConfigError
site_draft_of members = do
  shards ← one_of as_integer field.Shards members
  faulty ← one_of as_integer field.Faulty members
  dummies ← one_of as_integer field.Dummies members
  base_port ← one_of as_integer field.BasePort members
  contracts ← each_of as_str field.Contracts members
  genesis ← each_of hex_object field.Genesis members
  Ok (record {
    shards = shards;
    faulty = faulty;
    dummies = dummies;
    base_port = base_port;
    contracts = contracts;
    genesis = genesis;
  })

-- the configuration of these numbers, each in its range
abbrev pub config_within : ℤ → ℤ → ℤ → Result Config ConfigError
config_within given_shards given_faulty given_dummies = do
  shards ← number_between field.Shards 1 MOST_SHARDS given_shards
  faulty ← number_between field.Faulty 0 MOST_LIARS given_faulty
  dummies ← number_between field.Dummies 0 MOST_DUMMIES given_dummies
  Ok (config_of shards faulty dummies)

-- the fields, each in its range
abbrev pub site_within : SiteDraft → Result Site ConfigError
site_within draft = do
  config ← config_within draft.shards draft.faulty draft.dummies
  base_port ← number_between field.BasePort LEAST_BASE_PORT MOST_BASE_PORT draft.base_port
  contracts ← few_of field.Contracts MOST_CONTRACTS draft.contracts
  genesis ← few_of field.Genesis MOST_GENESIS draft.genesis
  Ok (record { config = config; base_port = base_port; contracts = contracts; genesis = genesis })

-- what a site file says, or why it is refused
abbrev pub site_of_file : List ℕ → Result Site ConfigError
site_of_file bytes = do
  members ← toml_table_of bytes
  draft ← site_draft_of members
  site_within draft
