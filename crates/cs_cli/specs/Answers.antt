-- What the program answers.
use Rattle.std.specs.Prelude.{◌≡◌, ◌≢◌, ◌⊎◌, ℕ, ◌+◌, List, take, codes, Option, IfSome, Ok}
use Rattle.std.specs.Io.KnownBytes.{Keeps, Appends}
use Rattle.cs_base.specs.Answers.{Answer, Answers, IsSourceText, IsTextOf}
use Rattle.cs_lang_token.specs.declared.limits.TheConstants.{MOST_TEXT}
use Rattle.cs_lang.specs.declared.tree.ContractTree.{ContractTree}
use Rattle.cs_lang.specs.Texts.{IsContract}
use Rattle.cs_types_kinds.specs.declared.scope.Costs.{Costs}
use Rattle.cs_types.specs.Accepted.{accepted_costs}
use Rattle.cs_cli.specs.declared.report.ContractMode.{ContractMode}
use Rattle.cs_cli.specs.Reports.{IsReport, accepted_answer}
use Rattle.cs_io.specs.Answers.{read_fault_answer}

abbrev pub words_answer : Answer
words_answer = record { status = 2; printed = codes "words\n" }

-- what is told of the text is printed; or memory ran out before, and nothing is
abbrev pub TellsOf : ContractMode → List ℕ → Option (List ℕ) → Option (List ℕ) → ℕ → Type 0
TellsOf mode text written written' status =
    ((answer : Answer) × IsReport mode text answer × Answers answer written written' status)
    ⊎ ((status ≡ 8) × Keeps written written')

-- what is accepted by its definition is told so
abbrev pub TellsContractAccepted : ContractMode → List ℕ → Option (List ℕ) → Option (List ℕ) → ℕ → Type 0
TellsContractAccepted mode text written written' status =
    (contract : ContractTree) (costs : List Costs) → IsContract text contract → accepted_costs contract ≡ Ok costs
    → Answers (accepted_answer mode text contract costs) written written' status

-- the text that the source had is told of
pub record TellsText (mode : ContractMode) (left left' written written' : Option (List ℕ)) (status : ℕ) : Type 0 where
  pub text : List ℕ
  pub is_text : IsTextOf MOST_TEXT left text
  pub whole : status ≢ 8 → IsSourceText MOST_TEXT left left' text
  pub told : TellsOf mode text written written' status
  pub accepted : status ≢ 8 → TellsContractAccepted mode text written written' status

-- the source has failed, or its text is told of
abbrev pub TellsSource : ContractMode → Option (List ℕ) → Option (List ℕ) → Option (List ℕ) → Option (List ℕ) → Type 0 → ℕ → Type 0
TellsSource mode left left' written written' ReadFailed status =
    (ReadFailed × Answers read_fault_answer written written' status)
    ⊎ TellsText mode left left' written written' status

-- where no fault came about, all that is told of the text is printed, unless memory ran out
abbrev pub TellsWhole : ContractMode → Option (List ℕ) → Option (List ℕ) → Option (List ℕ) → ℕ → Type 0
TellsWhole mode left written written' status =
    status ≢ 8 → IfSome left (λ bytes.
    (answer : Answer) × IsReport mode (take (MOST_TEXT + 1) bytes) answer
    × (status ≡ answer.status) × Appends written written' answer.printed)
