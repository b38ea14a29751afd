-- A text that is read line by line, and what it comes to: what the whole says, or its first bad line.
use Rattle.std.specs.Prelude.{ℕ, ◌+◌, ◌==◌, nat_le, List, [], ◌∷◌, length, take, slice_index, Option, Result, Ok, Err, if◌then◌else◌}
use Rattle.std.specs.Option.{ok_or}
use Rattle.std.specs.Str.Lines.{lines}
use Rattle.cs_base.specs.Lines.{fields_of, ended_lines}
use Rattle.cs_text.specs.declared.cause.Cause.{Cause}
use Rattle.cs_text.specs.declared.cause.Cause.TheVariants as cause
use Rattle.cs_text.specs.declared.cause.Refusal.{Refusal}

-- how texts of a kind are read, of which drafts are what was read so far
pub record TextForm (Draft Whole : Type 0) : Type 0 where
  pub start : Draft  -- before the first line
  pub step : ℕ → Draft → List ℕ → List (List ℕ) → Result Draft Cause  -- after the line of a number, a word and fields
  pub finish : Draft → Option Whole  -- behind the last line, where nothing is missing

-- the draft after a line of these fields; a line without fields, and one that begins with `#`, is passed over
abbrev pub line_step : {Draft Whole : Type 0} → TextForm Draft Whole → ℕ → Draft → List (List ℕ) → Result Draft Cause
line_step form number draft [] = Ok draft
line_step form number draft (word ∷ fields) =
    if slice_index word 0 == 35 then Ok draft else form.step number draft word fields

-- goes on with the next line, or says which line is bad
abbrev pub then_lines : {Draft : Type 0} → ℕ → Result Draft Cause → (Draft → Result Draft Refusal)
    → Result Draft Refusal
then_lines number (Ok draft) more = more draft
then_lines number (Err cause) more = Err (record { line = number; cause = cause })

-- the draft after these lines, the first of them with this number; or the first bad line
abbrev pub read_lines : {Draft Whole : Type 0} → TextForm Draft Whole → Draft → ℕ → List (List ℕ) → Result Draft Refusal
read_lines form draft number [] = Ok draft
read_lines form draft number (line ∷ more) =
    then_lines number (line_step form number draft (fields_of line)) (λ next. read_lines form next (number + 1) more)

-- what was read before the line of this number, which is missing where that isn't whole
abbrev pub whole : {Draft Whole : Type 0} → TextForm Draft Whole → ℕ → Result Draft Refusal → Result Whole Refusal
whole form number (Ok draft) = ok_or (form.finish draft) (record { line = number; cause = cause.End })
whole form number (Err refusal) = Err refusal

-- the first bad line, or else the line in which the text passes its limit
abbrev pub cut_at : {Draft Whole : Type 0} → ℕ → Result Draft Refusal → Result Whole Refusal
cut_at number (Ok draft) = Err (record { line = number; cause = cause.Limit })
cut_at number (Err refusal) = Err refusal

-- what a text within its limit comes to
abbrev pub whole_read : {Draft Whole : Type 0} → TextForm Draft Whole → List ℕ → Result Whole Refusal
whole_read form text = whole form (length (lines text) + 1) (read_lines form form.start 1 (lines text))

-- what a text above its limit comes to, of which this is the part within
abbrev pub part_read : {Draft Whole : Type 0} → TextForm Draft Whole → List ℕ → Result Whole Refusal
part_read form text = cut_at (length (ended_lines text) + 1) (read_lines form form.start 1 (ended_lines text))

-- what a text says, or its first bad line; of a text above the limit the lines that end within it are read
unfoldable pub whole_of : {Draft Whole : Type 0} → TextForm Draft Whole → ℕ → List ℕ → Result Whole Refusal
whole_of form limit text = if nat_le (length text) limit then whole_read form text else part_read form (take limit text)
