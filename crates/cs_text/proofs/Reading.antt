-- A text read line by line.
use Rattle.std.specs.Prelude.{◌≡◌, ℕ, ◌+◌, ◌<◌, ◌≤◌, List, [], ◌∷◌, length, Result, Ok, Err}
use Rattle.std.specs.Str.Lines.{lines, strip_carriage_return}
use Rattle.std.proofs.Common.{◌∙◌, ap, refl, arith}
use Rattle.cs_base.specs.Lines.{fields_of, ended_lines}
use Rattle.cs_base.proofs.Parting.{parts, lines_at, ended_at, last_at}
use Rattle.cs_text.specs.Text.{TextForm, line_step, read_lines, then_lines}
use Rattle.cs_text.specs.Reading.{IsEnded, IsRefused, TextFails, EndFails}
use Rattle.cs_text.specs.declared.error.TextError.{TextError}
use Rattle.cs_text.specs.declared.error.TextError.TheVariants as text_error
use Rattle.cs_text.specs.declared.cause.Cause.{Cause}
use Rattle.cs_text.specs.declared.cause.Refusal.{Refusal}

pub then_ok : {Draft : Type 0} → (number : ℕ) (step : Result Draft Cause) (next : Draft) → then_lines number step Ok ≡ Ok next → step ≡ Ok next
then_ok number (Ok draft) next is = let same : draft ≡ next = cc in ap Ok same
then_ok number (Err cause) next is = cc

-- a bad line is refused, whatever follows it
pub then_err : {Draft : Type 0} → (number : ℕ) (step : Result Draft Cause) (more : Draft → Result Draft Refusal) (refusal : Refusal) → then_lines number step Ok ≡ Err refusal → then_lines number step more ≡ Err refusal
then_err number (Ok draft) more refusal is = cc
then_err number (Err cause) more refusal is = is

module _ {Draft Whole : Type 0} (form : TextForm Draft Whole) (text : List ℕ) where
  -- the lines read so far gave this draft: what is left is read from it on
  pub record IsAt (draft : Draft) (number : ℕ) (rest : List ℕ) : Type 0 where
    pub ended : read_lines form form.start 1 (ended_lines text) ≡ read_lines form draft number (ended_lines rest)
    pub all : read_lines form form.start 1 (lines text) ≡ read_lines form draft number (lines rest)
    pub next : length (ended_lines text) + 1 ≡ number + length (ended_lines rest)
    pub count : length (lines text) + 1 ≡ number + length (lines rest)
    pub room : number + length rest ≤ length text + 1

  pub at_start : IsAt form.start 1 text
  at_start = record { ended = refl; all = refl; next = omega arith; count = omega arith; room = omega arith }

  module _ (draft : Draft) (number : ℕ) (rest : List ℕ) (at : IsAt draft number rest) where
    -- a step over a line
    pub at_next : (next : Draft) (line after : List ℕ) → parts rest ≡ line ∷ parts after → length after < length rest
        → line_step form number draft (fields_of (strip_carriage_return line)) ≡ Ok next → IsAt next (number + 1) after
    at_next next line after cut shorter step = record {
      ended = at.ended ∙ rw (ended_at rest line after cut, step) refl;
      all = at.all ∙ rw (lines_at rest line after cut, step) refl;
      next = let cut_ended = ap length (ended_at rest line after cut) in omega (arith, at.next);
      count = let cut_lines = ap length (lines_at rest line after cut) in omega (arith, at.count);
      room = omega (arith, at.room);
    }

    -- the first bad line
    at_refusal : (refusal : Refusal) (line after : List ℕ) → parts rest ≡ line ∷ parts after
        → then_lines number (line_step form number draft (fields_of (strip_carriage_return line))) Ok ≡ Err refusal → IsRefused form text refusal
    at_refusal refusal line after cut step = record {
      ended = at.ended ∙ rw (ended_at rest line after cut) (then_err number _ (λ next. read_lines form next (number + 1) (ended_lines after)) refusal step);
      all = at.all ∙ rw (lines_at rest line after cut) (then_err number _ (λ next. read_lines form next (number + 1) (lines after)) refusal step);
    }

    -- no line that ends with LF is left
    pub at_end : parts rest ≡ rest ∷ [] → IsEnded form text draft number rest
    at_end cut = record {
      ended = at.ended ∙ rw ((last_at rest cut).1) refl;
      next = at.next ∙ rw ((last_at rest cut).1) (omega arith);
      all = at.all ∙ rw ((last_at rest cut).0) refl;
      count = at.count ∙ rw ((last_at rest cut).0) refl;
      room = at.room;
    }

    -- what stands where a line is read fits the refusal of that line, if it is refused
    pub fails_at : (error : TextError) (line after : List ℕ) → parts rest ≡ line ∷ parts after
        → TextFails error (then_lines number (line_step form number draft (fields_of (strip_carriage_return line))) Ok) → EndFails form error text
    fails_at text_error.Memory line after cut fails = tt
    fails_at (text_error.Line refusal) line after cut fails = at_refusal refusal line after cut fails
