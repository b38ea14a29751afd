-- A file that isn't taken, and what is told of it.
use Rattle.std.specs.Prelude.{◌≡◌, ◌≢◌, ℕ, List, Option, IfSome, Ok, Err}
use Rattle.std.specs.Io.KnownBytes.{Keeps}
use Rattle.cs_base.specs.Answers.{Answer, Answers}
use Rattle.cs_io.specs.Store.{Files}
use Rattle.cs_deploy.specs.declared.cause.Cause.{Cause}
use Rattle.cs_deploy.specs.declared.cause.Untaken.{Untaken}
use Rattle.cs_deploy.specs.declared.cause.Untaken.TheVariants as untaken
use Rattle.cs_deploy.specs.Causes.{refusal_line}
use Rattle.cs_deploy.specs.Taking.{Taken, TakesFiles, IsStoreFault}

-- memory ran out, and nothing was printed
abbrev pub IsSilent : Option (List ℕ) → Option (List ℕ) → ℕ → Type 0
IsSilent written written' status = (status ≡ 8) × Keeps written written'

-- the line of the file
abbrev pub untaken_answer : List ℕ → Cause → Answer
untaken_answer name cause = record { status = 12; printed = refusal_line name cause }

abbrev pub TellsUntaken : Untaken → Option (List ℕ) → Option (List ℕ) → ℕ → Type 0
TellsUntaken (untaken.Refused name cause) written written' status =
    Answers (untaken_answer name cause) written written' status
TellsUntaken untaken.Memory written written' status = IsSilent written written' status

-- Of the files that a command takes, which come to this, one isn't taken, which is told. That the store failed is told
-- only where its faults rose.
pub record IsUntaken {A : Type 0} (Come : Files → Taken A → Type 0) (StoreFailed : Type 0) (files : Option Files)
    (written written' : Option (List ℕ)) (status : ℕ) : Type 0 where
  pub why : Untaken
  pub is_so : TakesFiles Come files (Err why)
  pub failed : IsStoreFault why → StoreFailed
  pub told : TellsUntaken why written written' status

-- ---- without faults

-- a file is refused, or the command goes on
abbrev pub EndsBy : {A : Type 0} → (ℕ → Type 0) → Taken A → ℕ → Type 0
EndsBy {A} Done (Ok x) status = Done status
EndsBy {A} Done (Err refusal) status = status ≡ 12

-- Where no fault came about, what the files come to decides, unless memory ran out: a file is refused, or the status is
-- one of these.
abbrev pub IsDecided : {A : Type 0} → (Files → Taken A → Type 0) → (ℕ → Type 0) → Option Files → ℕ → Type 0
IsDecided {A} Come Done files status =
    status ≢ 8 → IfSome files (λ told. (outcome : Taken A) × Come told outcome × EndsBy Done outcome status)
