-- The command `transaction`.
use Rattle.std.specs.Prelude.{◌≡◌, ◌≢◌, ◌⊎◌, ℕ, ◌+◌, nat_lt, Bool, true, false, List, length, take, codes, Option, IfSome, Result, Ok, Err}
use Rattle.std.specs.Io.KnownBytes.{Keeps, Appends}
use Rattle.cs_base.specs.Answers.{Answer, Answers, IsSourceText, IsTextOf}
use Rattle.cs_base.specs.declared.limits.TheConstants.{MOST_SCHEDULE}
use Rattle.cs_io.specs.Answers.{read_fault_answer}
use Rattle.cs_tx_types.specs.declared.transaction.Tx.{Tx}
use Rattle.cs_transact.specs.Lines.{refused_line}
use Rattle.cs_transact.specs.Says.{TextSays}
use Rattle.cs_transact.specs.Telling.{transaction_text}
use Rattle.cs_transact.specs.declared.refusal.Refusal.{Refusal}
use Rattle.cs_transact.specs.declared.command.Told.{Told}

-- ---- what is answered to a text

abbrev pub said_answer : Option ℕ → Result Tx Refusal → Answer
said_answer number (Ok tx) = record { status = 0; printed = transaction_text number tx }
said_answer number (Err refusal) = record { status = 3; printed = refused_line refusal }

-- the text is too long
abbrev pub long_answer : Answer
long_answer = record { status = 13; printed = codes "limit text\n" }

abbrev pub UnlessLong : Bool → Option ℕ → List ℕ → Answer → Type 0
UnlessLong true number text answer = answer ≡ long_answer
UnlessLong false number text answer = (said : Result Tx Refusal) × TextSays text said × (answer ≡ said_answer number said)

-- what the text says is told: a transaction, or the first cause for which it says none
abbrev pub TransactionAnswer : Option ℕ → List ℕ → Answer → Type 0
TransactionAnswer number text answer = UnlessLong (nat_lt MOST_SCHEDULE (length text)) number text answer

abbrev pub answer_told : Told → Answer
answer_told told = record { status = told.status; printed = told.printed.items }

-- ---- what the command does

-- so much is answered; or memory ran out before, and nothing is printed
abbrev pub TransactionTold : Option ℕ → List ℕ → Option (List ℕ) → Option (List ℕ) → ℕ → Type 0
TransactionTold number text written written' status =
    ((answer : Answer) × TransactionAnswer number text answer × Answers answer written written' status)
    ⊎ ((status ≡ 8) × Keeps written written')

-- the text that the source had is told of
pub record TransactionRead (number : Option ℕ) (left left' written written' : Option (List ℕ)) (status : ℕ) : Type 0 where
  pub text : List ℕ
  pub is_text : IsTextOf MOST_SCHEDULE left text
  pub whole : status ≢ 8 → IsSourceText MOST_SCHEDULE left left' text
  pub told : TransactionTold number text written written' status

-- the source has failed, or its text is told of
abbrev pub TransactionRuns : Option ℕ → Type 0 → Option (List ℕ) → Option (List ℕ) → Option (List ℕ) → Option (List ℕ) → ℕ
    → Type 0
TransactionRuns number ReadFailed left left' written written' status =
    (ReadFailed × Answers read_fault_answer written written' status)
    ⊎ TransactionRead number left left' written written' status

-- where no fault came about, all that is told of the text is printed, unless memory ran out
abbrev pub TransactionWhole : Option ℕ → Option (List ℕ) → Option (List ℕ) → Option (List ℕ) → ℕ → Type 0
TransactionWhole number left written written' status =
    status ≢ 8 → IfSome left (λ bytes.
    (answer : Answer) × TransactionAnswer number (take (MOST_SCHEDULE + 1) bytes) answer
    × (status ≡ answer.status) × Appends written written' answer.printed)
