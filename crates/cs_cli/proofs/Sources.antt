-- What is told of the contract text of a source.
use Rattle.std.specs.Prelude.{◌≡◌, ◌≢◌, ℕ, ◌+◌, List, take, Option, None, Some}
use Rattle.std.specs.Io.KnownBytes.{Keeps, Appends}
use Rattle.std.proofs.Common.{refl, inl, inr, subst}
use Rattle.cs_base.specs.Answers.{Answer, IsSourceText}
use Rattle.cs_base.proofs.Outcomes.{some_text}
use Rattle.cs_lang_token.specs.declared.limits.TheConstants.{MOST_TEXT}
use Rattle.cs_cli.specs.declared.report.ContractMode.{ContractMode}
use Rattle.cs_cli.specs.Reports.{IsReport}
use Rattle.cs_cli.specs.Answers.{TellsOf, TellsContractAccepted, TellsSource, TellsWhole}
use Rattle.cs_io.proofs.Sources.{text-read}

pub kept : (written : Option (List ℕ)) → Keeps written written
kept None = tt
kept (Some bytes) = refl

pub tells-text : (mode : ContractMode) (left left' written written' : Option (List ℕ)) (Failed : Type 0) (text : List ℕ) (status : ℕ)
    → IsSourceText MOST_TEXT left left' text → TellsOf mode text written written' status → (status ≢ 8 → TellsContractAccepted mode text written written' status)
    → TellsSource mode left left' written written' Failed status
tells-text mode left left' written written' Failed text status is told accepted =
    inr (record { text = text; is_text = text-read MOST_TEXT left left' text is; whole = λ other. is; told = told; accepted = accepted })

-- memory ran out before the text was read
pub untold : (mode : ContractMode) (left left' written : Option (List ℕ)) (Failed : Type 0) → TellsSource mode left left' written written Failed 8
untold mode left left' written Failed =
    let (text, is_text) = some_text MOST_TEXT left in
    inr (record {
      text = text;
      is_text = is_text;
      whole = λ other. absurd (other refl);
      told = inr (refl, kept written);
      accepted = λ other. absurd (other refl);
    })

pub tells-whole : (mode : ContractMode) (left left' written written' : Option (List ℕ)) (Failed : Type 0) (status : ℕ)
    → TellsSource mode left left' written written' Failed status → (Failed → ⊥) → status ≢ 6 → TellsWhole mode left written written' status
tells-whole mode left left' written written' Failed status (inl (failed, answers)) reads writes = absurd (reads failed)
tells-whole mode None left' written written' Failed status (inr tells) reads writes = λ other. tt
tells-whole mode (Some bytes) left' written written' Failed status (inr tells) reads writes = λ other. told-whole tells.text tells.is_text tells.told other
  where
    told-whole : (text : List ℕ) → text ≡ take (MOST_TEXT + 1) bytes → TellsOf mode text written written' status → status ≢ 8
        → (answer : Answer) × IsReport mode (take (MOST_TEXT + 1) bytes) answer × (status ≡ answer.status) × Appends written written' answer.printed
    told-whole text is (inl (answer, report, answers)) other =
        let all = answers.verdict writes other in
        (answer, subst (λ (t : List ℕ). IsReport mode t answer) is report, all.0, all.1)
    told-whole text is (inr (short, keeps)) other = absurd (other short)
