-- A wallet's file that isn't taken.
use Rattle.std.specs.Prelude.{◌≡◌, ℕ, nat_lt, List, ◌++◌, length, codes, Option, Some, None, IfSome, Result, Ok, Err, if◌then◌else◌}
use Rattle.std.specs.Io.KnownBytes.{Keeps}
use Rattle.cs_base.specs.Answers.{Answer, Answers}
use Rattle.cs_io.specs.Store.{Files}
use Rattle.cs_onetime.specs.declared.wallet.Wallet.{Wallet}
use Rattle.cs_wallet.specs.File.{wallet_of}
use Rattle.cs_wallet.specs.declared.error.FileError.{FileError}
use Rattle.cs_wallet.specs.declared.error.FileError.TheVariants as file
use Rattle.cs_wallet.specs.declared.cause.Cause.{Cause}
use Rattle.cs_wallet.specs.declared.cause.Cause.TheVariants.{Fault, Absent, TooLong, Toml, Seed, Used, LimitUsed}
use Rattle.cs_wallet.specs.declared.cause.Untaken.{Untaken}
use Rattle.cs_wallet.specs.declared.cause.Untaken.TheVariants.{Refused, Memory}
use Rattle.cs_wallet.specs.declared.loading.TheConstants.{MOST_WALLET}

-- ---- its line

abbrev pub cause_text : Cause → List ℕ
cause_text Fault = codes "fault"
cause_text Absent = codes "absent"
cause_text TooLong = codes "long"
cause_text Toml = codes "toml"
cause_text Seed = codes "field seed"
cause_text Used = codes "field used"
cause_text LimitUsed = codes "limit used"

abbrev pub refusal_answer : List ℕ → Cause → Answer
refusal_answer name cause = record {
  status = 12;
  printed = codes "store " ++ (name ++ (codes " " ++ (cause_text cause ++ codes "\n")));
}

-- ---- why it isn't taken

-- what can't be read; what stands in a file is none of memory
abbrev pub cause_of : FileError → Cause
cause_of file.Toml = Toml
cause_of file.Seed = Seed
cause_of file.Used = Used
cause_of file.LimitUsed = LimitUsed
cause_of file.Memory = Fault

-- what is answered of it
abbrev pub unread_as : FileError → Untaken
unread_as file.Toml = Refused Toml
unread_as file.Seed = Refused Seed
unread_as file.Used = Refused Used
unread_as file.LimitUsed = Refused LimitUsed
unread_as file.Memory = Memory

abbrev pub read_as : Result Wallet FileError → Result Wallet Cause
read_as (Ok wallet) = Ok wallet
read_as (Err error) = Err (cause_of error)

abbrev pub content_as : Option (List ℕ) → Result Wallet Cause
content_as None = Err Absent
content_as (Some bytes) = if nat_lt MOST_WALLET (length bytes) then Err TooLong else read_as (wallet_of bytes)

-- the wallet of the file of this name, or why there is none
abbrev pub wallet_taken : List ℕ → Files → Result Wallet Cause
wallet_taken name files = content_as (files name)

-- that is what was answered; or the store failed, or memory ran out
abbrev pub IsRefusal : List ℕ → Option Files → Untaken → Type 0
IsRefusal name files (Refused Fault) = Unit {0}
IsRefusal name files (Refused cause) = IfSome files (λ told. wallet_taken name told ≡ Err cause)
IsRefusal name files Memory = Unit {0}

abbrev pub Takes : List ℕ → Option Files → Result Wallet Untaken → Type 0
Takes name files (Ok wallet) = IfSome files (λ told. wallet_taken name told ≡ Ok wallet)
Takes name files (Err why) = IsRefusal name files why

abbrev pub IsStoreFault : Untaken → Type 0
IsStoreFault (Refused Fault) = Unit {0}
IsStoreFault (Refused cause) = ⊥
IsStoreFault Memory = ⊥

-- ---- what is told

-- memory ran out, and nothing was printed
abbrev pub IsSilent : Option (List ℕ) → Option (List ℕ) → ℕ → Type 0
IsSilent written written' status = (status ≡ 8) × Keeps written written'

abbrev pub TellsUntaken : List ℕ → Untaken → Option (List ℕ) → Option (List ℕ) → ℕ → Type 0
TellsUntaken name (Refused cause) written written' status = Answers (refusal_answer name cause) written written' status
TellsUntaken name Memory written written' status = IsSilent written written' status

-- The file isn't taken, which is told. That the store failed is told only where its faults rose.
pub record IsUntaken (name : List ℕ) (StoreFailed : Type 0) (files : Option Files) (written written' : Option (List ℕ))
    (status : ℕ) : Type 0 where
  pub why : Untaken
  pub is_so : IsRefusal name files why
  pub failed : IsStoreFault why → StoreFailed
  pub told : TellsUntaken name why written written' status
