-- Lines that are read one after the other, none of them bad.
use Rattle.std.specs.Prelude.{◌≡◌, ℕ, ◌+◌, List, [], ◌∷◌, ◌++◌, Result, Ok, Err}
use Rattle.std.proofs.Common.{◌∙◌, ap}
use Rattle.cs_text.specs.Text.{line_step, then_lines}
use Rattle.cs_text.specs.Values.{◌>>=◌}
use Rattle.cs_text.specs.declared.cause.Cause.{Cause}
use Rattle.cs_text.proofs.Rows.{read_fields}
use Rattle.cs_audit_dump.specs.Text.{dump_form}
use Rattle.cs_audit_dump.specs.declared.draft.Draft.{Draft}

-- the draft after a line, whatever number it has
abbrev pub dump_step : Draft → List (List ℕ) → Result Draft Cause
dump_step draft line = line_step dump_form 0 draft line

abbrev pub steps : Draft → List (List (List ℕ)) → Result Draft Cause
steps draft [] = Ok draft
steps draft (line ∷ more) = dump_step draft line >>= (λ next. steps next more)

-- one line, and then others
pub then_step : (draft mid last : Draft) (line : List (List ℕ)) (more : List (List (List ℕ))) → dump_step draft line ≡ Ok mid → steps mid more ≡ Ok last → steps draft (line ∷ more) ≡ Ok last
then_step draft mid last line more step rest = rw step rest

-- some lines, and then others
pub steps_then : (draft mid last : Draft) (lines more : List (List (List ℕ))) → steps draft lines ≡ Ok mid → steps mid more ≡ Ok last → steps draft (lines ++ more) ≡ Ok last
steps_then draft mid last [] more is rest = let q : Ok draft ≡ Ok mid = is in let same : draft ≡ mid = cc in ap (λ d. steps d more) same ∙ rest
steps_then draft mid last (line ∷ lines) more is rest = by (dump_step draft line) (λ next here. steps_then next mid last lines more here rest) is
  where
    by : (step : Result Draft Cause) → ((next : Draft) → steps next lines ≡ Ok mid → steps next (lines ++ more) ≡ Ok last)
        → (step >>= (λ next. steps next lines)) ≡ Ok mid → (step >>= (λ next. steps next (lines ++ more))) ≡ Ok last
    by (Ok next) go here = go next here
    by (Err bad) go here = absurd cc

-- so they are read, whatever numbers they have
pub read_steps : (lines : List (List (List ℕ))) (draft last : Draft) (number : ℕ) → steps draft lines ≡ Ok last → read_fields dump_form draft number lines ≡ Ok last
read_steps [] draft last number is = let q : Ok draft ≡ Ok last = is in let same : draft ≡ last = cc in ap Ok same
read_steps (line ∷ lines) draft last number is = by (dump_step draft line) (λ next here. read_steps lines next last (number + 1) here) is
  where
    by : (step : Result Draft Cause) → ((next : Draft) → steps next lines ≡ Ok last → read_fields dump_form next (number + 1) lines ≡ Ok last)
        → (step >>= (λ next. steps next lines)) ≡ Ok last → then_lines number step (λ next. read_fields dump_form next (number + 1) lines) ≡ Ok last
    by (Ok next) go here = go next here
    by (Err bad) go here = absurd cc
