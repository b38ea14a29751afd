-- What is given of the text of a source that is read up to a limit.
use Rattle.std.specs.Prelude.{◌≡◌, ℕ, List, Option}
use Rattle.std.proofs.Common.{subst}
use Rattle.cs_base.specs.Answers.{Answer, Answers, IsSourceText}
use Rattle.cs_io.specs.Answers.{SourceGives}
use Rattle.cs_io.proofs.Sources.{gives-text}

-- the limit by which it was read is this one
pub gives-within : (limit most : ℕ) (answer_to : List ℕ → Answer) (left left' written written' : Option (List ℕ)) (Failed : Type 0) (text : List ℕ) (status : ℕ)
    → limit ≡ most → IsSourceText limit left left' text → Answers (answer_to text) written written' status → SourceGives most answer_to left left' written written' Failed status
gives-within limit most answer_to left left' written written' Failed text status same is =
    gives-text most answer_to left left' written written' Failed text status (subst (λ (n : ℕ). IsSourceText n left left' text) same is)
