-- The command `keys` where standard input holds the master key.
use Rattle.std.specs.Prelude.{◌≡◌, ◌⊎◌, ℕ, ◌+◌, List, take, codes, Option, Some, None, IfSome, Ok}
use Rattle.std.specs.Io.KnownBytes.{Keeps}
use Rattle.cs_base.specs.Answers.{Answer, Answers, IsSourceText}
use Rattle.cs_io.specs.Answers.{read_fault_answer}
use Rattle.cs_io.specs.Told.{Stays}
use Rattle.cs_io.specs.Store.{Files}
use Rattle.cs_io.specs.Outside.{Beside}
use Rattle.cs_config.specs.declared.site.Site.{Site}
use Rattle.cs_deploy.specs.Taking.{TakesFiles, FilesCome}
use Rattle.cs_deploy.specs.Files.{site_taken}
use Rattle.cs_deploy.specs.declared.limits.TheConstants.{MOST_MASTER}
use Rattle.cs_deploy.specs.Untaken.{IsSilent, IsUntaken}
use Rattle.cs_deploy.specs.Keys.{IsSaved}
use Rattle.cs_deploy.specs.Master.{master_of}

abbrev pub refused_master : Answer
refused_master = record { status = 3; printed = codes "refused master\n" }

-- the key files of a site under this master key; or there is none, and all files stay
abbrev pub SavesUnder : Option (List ℕ) → Site → Type 0 → Beside (Option Files) → Beside (Option Files) → ℕ → Type 0
SavesUnder (Some master) site StoreFailed old new status =
    IsSaved site master StoreFailed old.told new.told old.written new.written status
SavesUnder None site StoreFailed old new status =
    Stays old.told new.told × Answers refused_master old.written new.written status

-- The source has failed, or memory ran out; all files stay.
pub record IsUnread (ReadFailed : Type 0) (old new : Beside (Option Files)) (status : ℕ) : Type 0 where
  pub kept : Stays old.told new.told
  pub told : (ReadFailed × Answers read_fault_answer old.written new.written status)
      ⊎ IsSilent old.written new.written status

-- The text of the source says the master key, or none.
pub record IsRead (site : Site) (StoreFailed : Type 0) (left left' : Option (List ℕ)) (old new : Beside (Option Files))
    (status : ℕ) : Type 0 where
  pub text : List ℕ
  pub is_text : IsSourceText MOST_MASTER left left' text
  pub saves : SavesUnder (master_of text) site StoreFailed old new status

-- what the command comes to: the site isn't taken, and nothing is read; or it is, and then the source is read
abbrev pub ReadKeysRuns : List ℕ → Type 0 → Type 0 → Option (List ℕ) → Option (List ℕ) → Beside (Option Files)
    → Beside (Option Files) → ℕ → Type 0
ReadKeysRuns name StoreFailed ReadFailed left left' old new status =
    (Stays old.told new.told × Keeps left left'
    × IsUntaken (FilesCome (site_taken name)) StoreFailed old.told old.written new.written status)
    ⊎ ((site : Site) × TakesFiles (FilesCome (site_taken name)) old.told (Ok site)
    × (IsUnread ReadFailed old new status ⊎ IsRead site StoreFailed left left' old new status))

-- ---- without faults

abbrev pub read_status : Option (List ℕ) → ℕ
read_status (Some master) = 0
read_status None = 3

-- by the text, where the source tells it
abbrev pub EndsAsRead : Option (List ℕ) → ℕ → Type 0
EndsAsRead left status = IfSome left (λ bytes. status ≡ read_status (master_of (take (MOST_MASTER + 1) bytes)))
