-- A text read line by line, and what was read of it.
use Rattle.std.specs.Prelude.{◌≡◌, ℕ, ◌==◌, List, [], ◌∷◌, map}
use Rattle.std.specs.List.{slice_split, onto_first}
use Rattle.std.specs.Str.Lines.{lines, lines_of_parts, strip_carriage_return}
use Rattle.std.proofs.Common.{◌∙◌, ap, refl, inl, inr}
use Rattle.std.proofs.lemmas.Bool.{cases_Bool}
use Rattle.cs_base.specs.Lines.{ended_lines, all_but_last, last_line}

abbrev pub parts : List ℕ → List (List ℕ)
parts text = slice_split (λ byte. byte == 10) text

-- there is a part in any case
pub onto_first-some : (x : ℕ) (ps : List (List ℕ)) → (part : List ℕ) × (more : List (List ℕ)) × (onto_first x ps ≡ part ∷ more)
onto_first-some x [] = (x ∷ [], [], refl)
onto_first-some x (p ∷ ps) = (x ∷ p, ps, refl)

pub some_part : (text : List ℕ) → (part : List ℕ) × (more : List (List ℕ)) × (parts text ≡ part ∷ more)
some_part [] = ([], [], refl)
some_part (x ∷ xs) =
    elim (cases_Bool (x == 10)) [
      | inl ends ↦ ([], parts xs, rw ends refl)
      | inr goes_on ↦ let (part, more, is) = onto_first-some x (parts xs) in (part, more, rw goes_on is)
    ]

-- a part in front of others is a line that ends with LF
pub lines_at : (rest line after : List ℕ) → parts rest ≡ line ∷ parts after → lines rest ≡ strip_carriage_return line ∷ lines after
lines_at rest line after cut =
    let (part, more, is) = some_part after in
    ap lines_of_parts cut ∙ rw is refl

pub ended_at : (rest line after : List ℕ) → parts rest ≡ line ∷ parts after → ended_lines rest ≡ strip_carriage_return line ∷ ended_lines after
ended_at rest line after cut =
    let (part, more, is) = some_part after in
    ap (λ ps. map strip_carriage_return (all_but_last ps)) cut ∙ rw is refl

-- a text of one part has no line that ends with LF
pub last_at : (rest : List ℕ) → parts rest ≡ rest ∷ [] → (lines rest ≡ last_line rest) × (ended_lines rest ≡ [])
last_at rest cut = (ap lines_of_parts cut, ap (λ ps. map strip_carriage_return (all_but_last ps)) cut)
