-- What a refusal says of the lines of a text.
use Rattle.std.specs.Prelude.{◌≡◌, ◌⊎◌, ℕ, ◌+◌, ◌-◌, ◌<◌, nat_le, List, [], length, take, Ok, Err, if◌then◌else◌}
use Rattle.std.specs.List.{slice_index_or}
use Rattle.std.specs.Str.Lines.{lines}
use Rattle.cs_base.specs.Lines.{fields_of, ended_lines}
use Rattle.cs_text.specs.Text.{TextForm, line_step, read_lines, whole_of}
use Rattle.cs_text.specs.declared.cause.Refusal.{Refusal}

-- the lines that are read: of a text above the limit those that end within it
abbrev pub lines_within : ℕ → List ℕ → List (List ℕ)
lines_within limit text = if nat_le (length text) limit then lines text else ended_lines (take limit text)

-- the named line is bad for this cause, or it is the one behind the last
abbrev pub IsBad : {Draft Whole : Type 0} → TextForm Draft Whole → List (List ℕ) → Draft → Refusal → Type 0
IsBad form read before refusal =
    (line_step form refusal.line before (fields_of (slice_index_or read (refusal.line - 1) [])) ≡ Err refusal.cause)
    ⊎ (refusal.line ≡ length read + 1)

-- each line before the named one is good, and that one is not
pub record IsFirstBad {Draft Whole : Type 0} (form : TextForm Draft Whole) (read : List (List ℕ)) (refusal : Refusal)
    : Type 0 where
  pub before : Draft
  pub numbered : 0 < refusal.line
  pub good : read_lines form form.start 1 (take (refusal.line - 1) read) ≡ Ok before
  pub bad : IsBad form read before refusal

-- each refusal of a text names the first bad line of it
abbrev pub RefusesFirstBad : {Draft Whole : Type 0} → TextForm Draft Whole → ℕ → Type 0
RefusesFirstBad form limit =
    (text : List ℕ) (refusal : Refusal) → whole_of form limit text ≡ Err refusal
    → IsFirstBad form (lines_within limit text) refusal
