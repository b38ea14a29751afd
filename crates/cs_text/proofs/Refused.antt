-- A refusal names the first bad line.
use Rattle.std.specs.Prelude.{◌≡◌, ◌⊎◌, ℕ, ◌+◌, ◌-◌, nat_le, Bool, true, false, List, [], ◌∷◌, length, take, Option, Some, None, Result, Ok, Err, if◌then◌else◌}
use Rattle.std.specs.List.{slice_index_or}
use Rattle.std.specs.Option.{ok_or}
use Rattle.std.specs.Str.Lines.{lines}
use Rattle.std.proofs.Common.{◌∙◌, sym, ap, refl, arith, inl, inr, suc}
use Rattle.std.proofs.lemmas.List.{take_all}
use Rattle.cs_base.specs.Lines.{fields_of, ended_lines}
use Rattle.cs_text.specs.Text.{TextForm, line_step, then_lines, read_lines, whole, cut_at, whole_read, part_read, whole_of}
use Rattle.cs_text.specs.FirstBad.{lines_within, IsFirstBad}
use Rattle.cs_text.specs.declared.cause.Cause.{Cause}
use Rattle.cs_text.specs.declared.cause.Cause.TheVariants as cause
use Rattle.cs_text.specs.declared.cause.Refusal.{Refusal}

refused_here : {Draft : Type 0} → (number : ℕ) (step : Result Draft Cause) (more : Draft → Result Draft Refusal) (refusal : Refusal) → then_lines number step more ≡ Err refusal
    → ((step ≡ Err refusal.cause) × (refusal.line ≡ number)) ⊎ ((next : Draft) × (step ≡ Ok next) × (more next ≡ Err refusal))
refused_here number (Ok next) more refusal is = inr (next, refl, is)
refused_here number (Err found) more refusal is =
    let here : record { line = number; cause = found } ≡ refusal = cc in
    inl (ap (λ (r : Refusal). Err r.cause) here, sym (ap (λ (r : Refusal). r.line) here))

-- the text has ended too early
too_early : {Whole : Type 0} → (found : Option Whole) (number : ℕ) (refusal : Refusal) → ok_or found (record { line = number; cause = cause.End }) ≡ Err refusal → refusal.line ≡ number
too_early (Some said) number refusal refused = absurd cc
too_early None number refusal refused = let same : record { line = number; cause = cause.End } ≡ refusal = cc in sym (ap (λ (r : Refusal). r.line) same)

module _ {Draft Whole : Type 0} (form : TextForm Draft Whole) where
  -- the place of the first bad line, and the draft before it
  record IsBadAt (read : List (List ℕ)) (draft : Draft) (number : ℕ) (refusal : Refusal) : Type 0 where
    before : Draft
    at : ℕ
    line : refusal.line ≡ number + at
    good : read_lines form draft number (take at read) ≡ Ok before
    bad : line_step form refusal.line before (fields_of (slice_index_or read at [])) ≡ Err refusal.cause

  bad_at : (read : List (List ℕ)) (draft : Draft) (number : ℕ) (refusal : Refusal) → read_lines form draft number read ≡ Err refusal → IsBadAt read draft number refusal
  bad_at [] draft number refusal is = absurd cc
  bad_at (line ∷ more) draft number refusal is =
      elim (refused_here number (line_step form number draft (fields_of line)) (λ next. read_lines form next (number + 1) more) refusal is) [
        | inl here ↦ record { before = draft; at = 0; line = omega (arith, here.1); good = refl; bad = rw (here.1) (here.0) }
        | inr later ↦
            let (next, step, rest) = later in
            let found = bad_at more next (number + 1) refusal rest in
            record {
              before = found.before;
              at = suc found.at;
              line = omega (arith, found.line);
              good = rw step found.good;
              bad = found.bad;
            }
      ]

  first_bad : (read : List (List ℕ)) (refusal : Refusal) → IsBadAt read form.start 1 refusal → IsFirstBad form read refusal
  first_bad read refusal found =
      let place : refusal.line - 1 ≡ found.at = omega (arith, found.line) in
      record {
        before = found.before;
        numbered = omega (arith, found.line);
        good = rw place found.good;
        bad = inl (rw place found.bad);
      }

  -- there is no bad line, and the refusal names the one behind the last
  behind_last : (read : List (List ℕ)) (draft : Draft) (refusal : Refusal) → read_lines form form.start 1 read ≡ Ok draft → refusal.line ≡ length read + 1 → IsFirstBad form read refusal
  behind_last read draft refusal good line =
      let all : take (refusal.line - 1) read ≡ read = take_all (refusal.line - 1) read (omega arith) in
      record {
        before = draft;
        numbered = omega arith;
        good = rw all good;
        bad = inr line;
      }

  whole_refused : (read : List (List ℕ)) (found : Result Draft Refusal) (refusal : Refusal) → read_lines form form.start 1 read ≡ found → whole form (length read + 1) found ≡ Err refusal → IsFirstBad form read refusal
  whole_refused read (Ok draft) refusal is refused = behind_last read draft refusal is (too_early (form.finish draft) (length read + 1) refusal refused)
  whole_refused read (Err bad) refusal is refused =
      let same : bad ≡ refusal = cc in
      first_bad read refusal (bad_at read form.start 1 refusal (is ∙ ap Err same))

  cut_refused : (read : List (List ℕ)) (found : Result Draft Refusal) (refusal : Refusal) → read_lines form form.start 1 read ≡ found
      → ◌≡◌ {A = Result Whole Refusal} (cut_at (length read + 1) found) (Err refusal) → IsFirstBad form read refusal
  cut_refused read (Ok draft) refusal is refused =
      let same : record { line = length read + 1; cause = cause.Limit } ≡ refusal = cc in
      behind_last read draft refusal is (sym (ap (λ (r : Refusal). r.line) same))
  cut_refused read (Err bad) refusal is refused =
      let same : bad ≡ refusal = cc in
      first_bad read refusal (bad_at read form.start 1 refusal (is ∙ ap Err same))

  pub refused_first : (limit : ℕ) (text : List ℕ) (refusal : Refusal) → whole_of form limit text ≡ Err refusal → IsFirstBad form (lines_within limit text) refusal
  unfolding whole_of
  refused_first limit text refusal is = by (nat_le (length text) limit) refl is
    where
      by : (within : Bool) → nat_le (length text) limit ≡ within
          → (if within then whole_read form text else part_read form (take limit text)) ≡ Err refusal
          → IsFirstBad form (lines_within limit text) refusal
      by true within refused = rw within (whole_refused (lines text) (read_lines form form.start 1 (lines text)) refusal refl refused)
      by false beyond refused = rw beyond (cut_refused (ended_lines (take limit text)) (read_lines form form.start 1 (ended_lines (take limit text))) refusal refl refused)
