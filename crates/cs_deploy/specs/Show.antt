-- The command `show`.
use Rattle.std.specs.Prelude.{◌≡◌, ◌⊎◌, ℕ, nat_lt, Bool, true, false, List, codes, Option, Some, None, Ok}
use Rattle.cs_base.specs.Answers.{Answer, Answers}
use Rattle.cs_base.specs.declared.config.Config.{Config}
use Rattle.cs_base.specs.declared.key.Key.{Key}
use Rattle.cs_base.specs.Key.{shard_of_key}
use Rattle.cs_io.specs.Store.{Files}
use Rattle.cs_io.specs.Link.{Binds}
use Rattle.cs_io.specs.Outside.{LinkTold, Beside}
use Rattle.cs_io.specs.declared.link.Bound.TheVariants as bind
use Rattle.cs_io.specs.declared.until.Until.{Until}
use Rattle.cs_config.specs.declared.hosts.Hosts.{Hosts}
use Rattle.cs_config.specs.declared.site.Site.{Site}
use Rattle.cs_wire.specs.declared.keys.Keys.{Keys}
use Rattle.cs_client.specs.declared.known.Known.TheVariants as known
use Rattle.cs_show.specs.declared.ending.Ending.{Ending}
use Rattle.cs_show.specs.declared.ending.Ending.TheVariants.{Tells, Open, LinkFault, Memory}
use Rattle.cs_show.specs.declared.lookup.Lookup.{Lookup}
use Rattle.cs_show.specs.Looking.{Looks}
use Rattle.cs_deploy.specs.declared.keys.Role.TheVariants.{Client as InClient}
use Rattle.cs_deploy.specs.Taking.{Taken, ◌>>=◌, FilesCome}
use Rattle.cs_deploy.specs.Files.{site_taken, keys_taken}
use Rattle.cs_deploy.specs.Hosts.{hosts_taken}
use Rattle.cs_deploy.specs.Untaken.{IsSilent}
use Rattle.cs_deploy.specs.Binding.{IsUntouched, IsToldHosts, IsShort, IsUnbound, Runs, link_answer}
use Rattle.cs_deploy.specs.Client.{known_answer}

-- ---- what is taken: the site, a client's keys, and then the hosts file, where one is named

-- the site has the shard that holds the key
abbrev pub has_shard : Config → Key → Bool
has_shard config key = nat_lt (shard_of_key config.shards key) config.shards

-- the site, with the keys and where all are
abbrev pub Shown : Type 0
Shown = Site × Keys × Option Hosts

-- where all are, behind the keys
abbrev pub hosts_behind : Site → Option (List ℕ) → Files → Keys → Taken (Option Shown)
hosts_behind site name files keys = do
  hosts ← hosts_taken site.config name files
  Ok (Some (site, keys, hosts))

-- both, where it has
abbrev pub keys_where : Bool → Site → List ℕ → Option (List ℕ) → Files → Taken (Option Shown)
keys_where false site name hosts_name files = Ok None
keys_where true site name hosts_name files = do
  keys ← keys_taken InClient site.config name files
  hosts_behind site hosts_name files keys

-- none, where the site has no such shard
abbrev pub show_taken : List ℕ → List ℕ → Option (List ℕ) → Key → Files → Taken (Option Shown)
show_taken site_name keys_name hosts_name key files = do
  site ← site_taken site_name files
  keys_where (has_shard site.config key) site keys_name hosts_name files

-- ---- the last line

abbrev pub no_shard_answer : Answer
no_shard_answer = record { status = 3; printed = codes "refused call shard\n" }

abbrev pub line_answer : List ℕ → Answer
line_answer line = record { status = 0; printed = line }

abbrev pub TellsLook : Ending → Option (List ℕ) → Option (List ℕ) → ℕ → Type 0
TellsLook (Tells line) written written' status = Answers (line_answer line) written written' status
TellsLook Open written written' status = Answers (known_answer known.Open) written written' status
TellsLook LinkFault written written' status = Answers link_answer written written' status
TellsLook Memory written written' status = IsSilent written written' status

-- ---- the command

abbrev pub lookup_of : Site → Keys → Key → Lookup
lookup_of site keys key = record { config = site.config; keys = keys; key = key }

-- The link is told where all are and bound as the client of these keys, and the key is looked up.
pub record IsLookedUp (lookup : Lookup) (base_port : ℕ) (hosts : Option Hosts) (until : Until) (LinkFailed : Type 0)
    (old new : Beside LinkTold) (status : ℕ) : Type 0 where
  pub placed : IsToldHosts hosts old.told new.told
  pub bound : Binds old.told.bound new.told.bound lookup.keys.me base_port bind.Done
  pub ending : Ending
  pub looks : Looks lookup until old.told new.told ending
  pub failed : ending ≡ LinkFault → LinkFailed
  pub told : TellsLook ending old.written new.written status

-- what becomes of a look at a key whose files are taken; of one that no shard holds it is told so, and the link is left alone
abbrev pub ShowGoes : Key → Until → Type 0 → Option Shown → Beside LinkTold → Beside LinkTold → ℕ → Type 0
ShowGoes key until LinkFailed None old new status =
    IsUntouched old.told new.told × Answers no_shard_answer old.written new.written status
ShowGoes key until LinkFailed (Some (site, keys, hosts)) old new status =
    IsShort old new status
    ⊎ (IsUnbound keys.me site.base_port hosts LinkFailed old new status
    ⊎ IsLookedUp (lookup_of site keys key) site.base_port hosts until LinkFailed old new status)

-- what the command comes to
abbrev pub ShowRuns : List ℕ → List ℕ → Option (List ℕ) → Key → Until → Type 0 → Type 0 → Option Files
    → Beside LinkTold → Beside LinkTold → ℕ → Type 0
ShowRuns site keys hosts key until StoreFailed LinkFailed files old new status =
    Runs (FilesCome (show_taken site keys hosts key)) (ShowGoes key until LinkFailed) StoreFailed files old new status
