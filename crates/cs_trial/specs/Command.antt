-- The command `try`.
use Rattle.std.specs.Prelude.{◌≡◌, ◌≢◌, ◌⊎◌, ℕ, ◌+◌, List, take, Option, Some, IfSome, Ok, Err}
use Rattle.std.specs.Io.KnownBytes.{Keeps, Appends}
use Rattle.cs_base.specs.Answers.{Answer, Answers, IsSourceText, IsTextOf}
use Rattle.cs_base.specs.declared.limits.TheConstants.{MOST_SCHEDULE}
use Rattle.cs_io.specs.Answers.{read_fault_answer}
use Rattle.cs_io.specs.Store.{Files}
use Rattle.cs_types.specs.Accepted.{Accepted}
use Rattle.cs_types.specs.Accepting.{accepted_of}
use Rattle.cs_types.specs.declared.fault.Fault.{Fault}
use Rattle.cs_types.specs.Faults.{IsFault, fault_status}
use Rattle.cs_explain.specs.Explaining.{explained_text}
use Rattle.cs_deploy.specs.Taking.{Taken, TakesFiles, FilesCome, bytes_taken}
use Rattle.cs_deploy.specs.Untaken.{IsSilent, IsUntaken, untaken_answer}
use Rattle.cs_trial.specs.Trials.{CasesAnswer}

-- ---- what is answered to a contract's text and a text of cases

abbrev pub faulted_answer : List ℕ → Fault → Answer
faulted_answer text fault = record { status = fault_status fault; printed = explained_text text fault }

-- the first fault of the contract's text is told, and what explains it
abbrev pub FaultAnswer : List ℕ → Answer → Type 0
FaultAnswer text answer = (fault : Fault) × IsFault text fault × (answer ≡ faulted_answer text fault)

-- the contract is accepted, and then the cases are told of
abbrev pub AcceptedAnswer : List ℕ → List ℕ → Answer → Type 0
AcceptedAnswer text cases answer = (a : Accepted) × (accepted_of text ≡ Some a) × CasesAnswer a text cases answer

abbrev pub TextsAnswer : List ℕ → List ℕ → Answer → Type 0
TextsAnswer text cases answer = FaultAnswer text answer ⊎ AcceptedAnswer text cases answer

-- the contract's file comes first
abbrev pub TryAnswer : Taken (List ℕ) → List ℕ → Answer → Type 0
TryAnswer (Ok text) cases answer = TextsAnswer text cases answer
TryAnswer (Err (name, why)) cases answer = answer ≡ untaken_answer name why

-- ---- what the command does

-- so much is answered; or memory ran out before, and nothing is printed
abbrev pub Tells : (Answer → Type 0) → Option (List ℕ) → Option (List ℕ) → ℕ → Type 0
Tells Answered written written' status =
    ((answer : Answer) × Answered answer × Answers answer written written' status) ⊎ IsSilent written written' status

-- the text that the source had is told of
pub record TriesRead (a : Accepted) (text : List ℕ) (left left' written written' : Option (List ℕ)) (status : ℕ) : Type 0 where
  pub cases : List ℕ
  pub is_text : IsTextOf MOST_SCHEDULE left cases
  pub whole : status ≢ 8 → IsSourceText MOST_SCHEDULE left left' cases
  pub told : Tells (CasesAnswer a text cases) written written' status

-- the source has failed, or its text is told of
abbrev pub TriesSource : Accepted → List ℕ → Type 0 → Option (List ℕ) → Option (List ℕ) → Option (List ℕ)
    → Option (List ℕ) → ℕ → Type 0
TriesSource a text ReadFailed left left' written written' status =
    (ReadFailed × Answers read_fault_answer written written' status) ⊎ TriesRead a text left left' written written' status

-- a contract with a fault is told of, and nothing is read; or the cases are read
abbrev pub TriesText : List ℕ → Type 0 → Option (List ℕ) → Option (List ℕ) → Option (List ℕ) → Option (List ℕ) → ℕ → Type 0
TriesText text ReadFailed left left' written written' status =
    (Keeps left left' × Tells (FaultAnswer text) written written' status)
    ⊎ ((a : Accepted) × (accepted_of text ≡ Some a) × TriesSource a text ReadFailed left left' written written' status)

-- what the command comes to: the contract's file isn't taken, and nothing is read; or it is
abbrev pub TryRuns : List ℕ → Type 0 → Type 0 → Option Files → Option (List ℕ) → Option (List ℕ) → Option (List ℕ)
    → Option (List ℕ) → ℕ → Type 0
TryRuns name StoreFailed ReadFailed files left left' written written' status =
    (Keeps left left' × IsUntaken (FilesCome (bytes_taken name)) StoreFailed files written written' status)
    ⊎ ((text : List ℕ) × TakesFiles (FilesCome (bytes_taken name)) files (Ok text)
    × TriesText text ReadFailed left left' written written' status)

-- ---- without faults

-- all that is answered to the file and the text is printed, unless memory ran out
abbrev pub TryWhole : List ℕ → Option Files → Option (List ℕ) → Option (List ℕ) → Option (List ℕ) → ℕ → Type 0
TryWhole name files left written written' status =
    status ≢ 8 → IfSome files (λ told. IfSome left (λ bytes.
    (answer : Answer) × TryAnswer (bytes_taken name told) (take (MOST_SCHEDULE + 1) bytes) answer
    × (status ≡ answer.status) × Appends written written' answer.printed))
