-- What every setup meets that is taken, whatever the store tells.
use Rattle.std.specs.Prelude.{◌≡◌, ◌≢◌, ◌≤◌, true, length}
use Rattle.std.specs.List.{All, AllPairs}
use Rattle.cs_base.specs.declared.limits.TheConstants.{MOST_GENESIS}
use Rattle.cs_base.specs.declared.version.Version.TheVariants.{One}
use Rattle.cs_tx_value.specs.Object.{ObjectFits}
use Rattle.cs_tx.specs.GenesisNames.{genesis_names}
use Rattle.cs_deploy.specs.declared.keys.Role.{Role}
use Rattle.cs_deploy.specs.declared.setups.Setup.{Setup}
use Rattle.cs_deploy.specs.Files.{is_right}

-- keys of one in this role and a site, which are of version 1, and objects that have encodings, each under a key of its
-- own
pub record IsSoundSetup (role : Role) (setup : Setup) : Type 0 where
  pub first : setup.keys.version ≡ One
  pub version : setup.site.config.version ≡ 1
  pub right : is_right role setup.site.config setup.keys.me ≡ true
  pub objects : All ObjectFits setup.site.genesis
  pub few_objects : length setup.site.genesis ≤ MOST_GENESIS
  pub keys_differ : AllPairs (λ a b. a ≢ b) (genesis_names 0 setup.site.genesis)
