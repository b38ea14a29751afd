-- What is answered to the text of a source.
use Rattle.std.specs.Prelude.{◌≡◌, ◌≢◌, ℕ, zero, suc, ◌+◌, ◌≤◌, List, [], ◌∷◌, ◌++◌, length, take, Option, Some, None}
use Rattle.std.specs.Io.KnownBytes.{Appends}
use Rattle.std.proofs.Common.{Bool, true, false, nat_lt, refl, sym, ap, ◌∙◌, append-nil, inl, inr, subst, arith}
use Rattle.std.proofs.lemmas.List.{take-append-le}
use Rattle.cs_base.specs.Answers.{Answer, Answers, IsSourceText, IsTextOf}
use Rattle.cs_base.proofs.Outcomes.{some_text, nothing_printed}
use Rattle.cs_io.specs.Answers.{SourceGives, GivesWhole}

take-whole : (k : ℕ) (xs : List ℕ) → length xs ≤ k → take k xs ≡ xs
take-whole zero [] h = refl
take-whole zero (x ∷ xs) h = absurd (omega arith)
take-whole (suc k) [] h = refl
take-whole (suc k) (x ∷ xs) h = ap (λ ys. x ∷ ys) (take-whole k xs (omega arith))

-- the text that was read is that of what was left
pub text-read : (limit : ℕ) (left left' : Option (List ℕ)) (text : List ℕ) → IsSourceText limit left left' text → IsTextOf limit left text
text-read limit None left' text is = tt
text-read limit (Some xs) None text is = absurd is.taken
text-read limit (Some xs) (Some ys) text is = by (nat_lt limit (length text)) refl
  where
    whole : take (limit + 1) text ≡ text
    whole = take-whole (limit + 1) text is.bound

    by : (b : Bool) → nat_lt limit (length text) ≡ b → text ≡ take (limit + 1) xs
    by true long =
        let enough : limit + 1 ≤ length text = grind arith in
        sym (ap (take (limit + 1)) is.taken ∙ take-append-le (limit + 1) text ys enough ∙ whole)
    by false short =
        let within : length text ≤ limit = grind arith in
        sym (ap (take (limit + 1)) (is.taken ∙ ap (λ rest. text ++ rest) (is.at_end within) ∙ append-nil text) ∙ whole)

pub gives-text : (limit : ℕ) (answer_to : List ℕ → Answer) (left left' written written' : Option (List ℕ)) (Failed : Type 0) (text : List ℕ) (status : ℕ)
    → IsSourceText limit left left' text → Answers (answer_to text) written written' status → SourceGives limit answer_to left left' written written' Failed status
gives-text limit answer_to left left' written written' Failed text status is answers =
    inr (record { text = text; is_text = text-read limit left left' text is; whole = λ other. is; answers = answers })

-- memory ran out before the text was read
pub not-given : (limit : ℕ) (answer_to : List ℕ → Answer) (left left' written : Option (List ℕ)) (Failed : Type 0) → SourceGives limit answer_to left left' written written Failed 8
not-given limit answer_to left left' written Failed =
    let (text, is_text) = some_text limit left in
    inr (record {
      text = text;
      is_text = is_text;
      whole = λ other. absurd (other refl);
      answers = nothing_printed (answer_to text) written;
    })

-- where the source doesn't fail, and no write, the answer is given whole
pub gives-whole : (limit : ℕ) (answer_to : List ℕ → Answer) (left left' written written' : Option (List ℕ)) (Failed : Type 0) (status : ℕ)
    → SourceGives limit answer_to left left' written written' Failed status → (Failed → ⊥) → status ≢ 6 → GivesWhole limit answer_to left written written' status
gives-whole limit answer_to left left' written written' Failed status (inl (failed, answers)) reads writes = absurd (reads failed)
gives-whole limit answer_to None left' written written' Failed status (inr given) reads writes = λ other. tt
gives-whole limit answer_to (Some bytes) left' written written' Failed status (inr given) reads writes = λ other.
    subst (λ (text : List ℕ). (status ≡ (answer_to text).status) × Appends written written' (answer_to text).printed) given.is_text (given.answers.verdict writes other)
