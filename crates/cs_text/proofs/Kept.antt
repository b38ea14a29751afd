-- What each line keeps, a text keeps.
use Rattle.std.specs.Prelude.{◌≡◌, ℕ, ◌+◌, ◌==◌, nat_le, List, [], ◌∷◌, length, take, slice_index, Option, Some, None, Result, Ok, Err}
use Rattle.std.specs.Option.{ok_or}
use Rattle.std.specs.Str.Lines.{lines}
use Rattle.std.proofs.Common.{refl, subst, inl, inr}
use Rattle.cs_base.specs.Lines.{fields_of, ended_lines}
use Rattle.cs_text.specs.Text.{TextForm, line_step, then_lines, read_lines, whole, cut_at, whole_read, part_read, whole_of}
use Rattle.cs_text.specs.declared.cause.Cause.{Cause}
use Rattle.cs_text.specs.declared.cause.Refusal.{Refusal}
use Rattle.cs_text.proofs.Steps.{ok_same, either_ok}

then_lines-ok : {Draft : Type 0} → (number : ℕ) (step : Result Draft Cause) (more : Draft → Result Draft Refusal) (last : Draft) → then_lines number step more ≡ Ok last
    → (next : Draft) × (step ≡ Ok next) × (more next ≡ Ok last)
then_lines-ok number (Ok next) more last is = (next, refl, is)
then_lines-ok number (Err cause) more last is = absurd cc

found_some : {Whole : Type 0} → (found : Option Whole) (refusal : Refusal) (said : Whole) → ok_or found refusal ≡ Ok said → found ≡ Some said
found_some (Some x) refusal said is = cc
found_some None refusal said is = absurd cc

cut_at-never : {Draft Whole : Type 0} → (number : ℕ) (read : Result Draft Refusal) (said : Whole) → cut_at number read ≡ Ok said → ⊥
cut_at-never number (Ok draft) said is = cc
cut_at-never number (Err refusal) said is = cc

module _ {Draft Whole : Type 0} (form : TextForm Draft Whole) (IsKept : Draft → Type 0) (begins : IsKept form.start)
    (keeps : (number : ℕ) (draft next : Draft) (word : List ℕ) (fields : List (List ℕ)) → IsKept draft → form.step number draft word fields ≡ Ok next → IsKept next) where
  step_kept : (number : ℕ) (draft next : Draft) (fields : List (List ℕ)) → IsKept draft → line_step form number draft fields ≡ Ok next → IsKept next
  step_kept number draft next [] kept is = subst IsKept (ok_same draft next is) kept
  step_kept number draft next (word ∷ fields) kept is =
      elim (either_ok (slice_index word 0 == 35) (Ok draft) (form.step number draft word fields) next is) [
        | inl comment ↦ subst IsKept (ok_same draft next comment) kept
        | inr here ↦ keeps number draft next word fields kept here
      ]

  lines_kept : (read : List (List ℕ)) (number : ℕ) (draft last : Draft) → IsKept draft → read_lines form draft number read ≡ Ok last → IsKept last
  lines_kept [] number draft last kept is = subst IsKept (ok_same draft last is) kept
  lines_kept (line ∷ more) number draft last kept is =
      let (next, step, rest) = then_lines-ok number (line_step form number draft (fields_of line)) (λ next. read_lines form next (number + 1) more) last is in
      lines_kept more (number + 1) next last (step_kept number draft next (fields_of line) kept step) rest

  read_kept : (read : List (List ℕ)) (number : ℕ) (said : Whole) (found : Result Draft Refusal) → read_lines form form.start 1 read ≡ found → whole form number found ≡ Ok said
      → (draft : Draft) × IsKept draft × (form.finish draft ≡ Some said)
  read_kept read number said (Ok draft) is ends = (draft, lines_kept read 1 form.start draft begins is, found_some (form.finish draft) _ said ends)
  read_kept read number said (Err refusal) is ends = absurd cc

  -- the draft of which a text is what was read
  pub whole_kept : (limit : ℕ) (text : List ℕ) (said : Whole) → whole_of form limit text ≡ Ok said → (draft : Draft) × IsKept draft × (form.finish draft ≡ Some said)
  unfolding whole_of
  whole_kept limit text said is =
      elim (either_ok (nat_le (length text) limit) (whole_read form text) (part_read form (take limit text)) said is) [
        | inl within ↦ read_kept (lines text) (length (lines text) + 1) said (read_lines form form.start 1 (lines text)) refl within
        | inr beyond ↦ absurd (cut_at-never (length (ended_lines (take limit text)) + 1) (read_lines form form.start 1 (ended_lines (take limit text))) said beyond)
      ]
