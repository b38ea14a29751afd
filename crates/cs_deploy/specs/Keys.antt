-- The command `keys`: the key files of a site.
use Rattle.std.specs.Prelude.{◌≡◌, ◌⊎◌, ℕ, List, Option, Result, Ok, Err}
use Rattle.std.specs.Io.KnownBytes.{Keeps}
use Rattle.cs_base.specs.Answers.{Answers}
use Rattle.cs_io.specs.Told.{Changes, Stays}
use Rattle.cs_io.specs.Store.{Files}
use Rattle.cs_config.specs.declared.site.Site.{Site}
use Rattle.cs_wire.specs.AllNames.{names_of}
use Rattle.cs_config.specs.FileNames.{key_file}
use Rattle.cs_config.specs.Saving.{SavesUpTo, ByFault}
use Rattle.cs_config.specs.declared.saving.SaveError.{SaveError}
use Rattle.cs_config.specs.declared.saving.SaveError.TheVariants.{Fault, Memory}
use Rattle.cs_deploy.specs.declared.cause.Cause.TheVariants as cause
use Rattle.cs_deploy.specs.Taking.{TakesFiles, FilesCome}
use Rattle.cs_deploy.specs.Files.{site_taken}
use Rattle.cs_deploy.specs.Untaken.{IsSilent, untaken_answer, IsUntaken}

-- the line of the key file at which the store failed
abbrev pub TellsUnsaved : SaveError → Option (List ℕ) → Option (List ℕ) → ℕ → Type 0
TellsUnsaved (Fault me) written written' status = Answers (untaken_answer (key_file me) cause.Fault) written written' status
TellsUnsaved Memory written written' status = IsSilent written written' status

-- where all are saved nothing is printed
abbrev pub TellsSaved : Result Unit SaveError → Option (List ℕ) → Option (List ℕ) → ℕ → Type 0
TellsSaved (Ok done) written written' status = (status ≡ 0) × Keeps written written'
TellsSaved (Err error) written written' status = TellsUnsaved error written written' status

-- The key files that the master key gives the names of a site are saved, or a part of them.
pub record IsSaved (site : Site) (master : List ℕ) (StoreFailed : Type 0) (files files' : Option Files)
    (written written' : Option (List ℕ)) (status : ℕ) : Type 0 where
  pub result : Result Unit SaveError
  pub saved : Changes (SavesUpTo site.config master (names_of site.config) result) files files'
  pub failed : ByFault result → StoreFailed
  pub told : TellsSaved result written written' status

-- what the command comes to: the site isn't taken, and all files stay; or it is
abbrev pub KeysRuns : List ℕ → List ℕ → Type 0 → Option Files → Option Files → Option (List ℕ) → Option (List ℕ) → ℕ
    → Type 0
KeysRuns name master StoreFailed files files' written written' status =
    (Stays files files' × IsUntaken (FilesCome (site_taken name)) StoreFailed files written written' status)
    ⊎ ((site : Site) × TakesFiles (FilesCome (site_taken name)) files (Ok site)
    × IsSaved site master StoreFailed files files' written written' status)
