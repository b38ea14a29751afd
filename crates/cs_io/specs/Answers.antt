-- What a command answers that has one answer to each text.
use Rattle.std.specs.Prelude.{◌≡◌, ◌≢◌, ◌⊎◌, ℕ, ◌+◌, List, take, codes, Option, IfSome, Result, Ok, Err}
use Rattle.std.specs.Io.KnownBytes.{Appends}
use Rattle.cs_base.specs.Answers.{Answer, Answers, IsSourceText, IsTextOf}
use Rattle.cs_base.specs.declared.printing.WriteError.{WriteError}
use Rattle.cs_base.specs.declared.printing.WriteError.TheVariants as write

-- the status, unless what is printed before it could not be written
abbrev pub closing_status : Result (Unit {0}) WriteError → ℕ → ℕ
closing_status (Ok done) status = status
closing_status (Err write.Failed) status = 6
closing_status (Err write.Memory) status = 8

abbrev pub read_fault_answer : Answer
read_fault_answer = record { status = 5; printed = codes "read fault\n" }

-- the text that the source had is answered so
pub record AnswersText (limit : ℕ) (answer_to : List ℕ → Answer) (left left' written written' : Option (List ℕ))
    (status : ℕ) : Type 0 where
  pub text : List ℕ
  pub is_text : IsTextOf limit left text
  pub whole : status ≢ 8 → IsSourceText limit left left' text
  pub answers : Answers (answer_to text) written written' status

-- the source has failed, or its text is answered so
abbrev pub SourceGives : ℕ → (List ℕ → Answer) → Option (List ℕ) → Option (List ℕ) → Option (List ℕ) → Option (List ℕ)
    → Type 0 → ℕ → Type 0
SourceGives limit answer_to left left' written written' ReadFailed status =
    (ReadFailed × Answers read_fault_answer written written' status)
    ⊎ AnswersText limit answer_to left left' written written' status

-- where no fault came about, the answer to the text is given and all of it printed, unless memory ran out
abbrev pub GivesWhole : ℕ → (List ℕ → Answer) → Option (List ℕ) → Option (List ℕ) → Option (List ℕ) → ℕ → Type 0
GivesWhole limit answer_to left written written' status =
    status ≢ 8 → IfSome left (λ bytes.
    let answer = answer_to (take (limit + 1) bytes) in
    (status ≡ answer.status) × Appends written written' answer.printed)
