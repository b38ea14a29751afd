-- How what a function answered fits what a definition says, unless memory ran out.
use Rattle.std.specs.Prelude.{◌≡◌, ℕ, ◌+◌, ◌≤◌, List, length, Result, Ok, Err}
use denote.Ref.{Bor}
use Rattle.std.specs.Str.Lines.{lines}
use Rattle.cs_base.specs.Lines.{ended_lines, last_line}
use Rattle.cs_text.specs.Text.{TextForm, read_lines}
use Rattle.cs_text.specs.declared.cause.Cause.{Cause}
use Rattle.cs_text.specs.declared.cause.Refusal.{Refusal}
use Rattle.cs_text.specs.declared.error.LineError.{LineError}
use Rattle.cs_text.specs.declared.error.LineError.TheVariants as line
use Rattle.cs_text.specs.declared.error.TextError.{TextError}
use Rattle.cs_text.specs.declared.error.TextError.TheVariants as text

-- a line that gave nothing was refused, or memory ran out
abbrev pub LineFails : {T : Type 0} → LineError → Result T Cause → Type 0
LineFails line.Memory step = Unit {0}
LineFails (line.Bad cause) step = step ≡ Err cause

-- a line gave what its step says
abbrev pub GivesStep : {T : Type 0} → Result T LineError → Result T Cause → Type 0
GivesStep (Ok x) step = step ≡ Ok x
GivesStep (Err e) step = LineFails e step

-- a line moved a draft as its step says
abbrev pub Moves : {T D : Type 0} → Result D LineError → T → Result T Cause → Type 0
Moves (Ok done) next step = step ≡ Ok next
Moves (Err e) next step = LineFails e step

-- a field was lent, as a definition says
abbrev pub Lends : Result (Bor (List ℕ)) Cause → Result (List ℕ) Cause → Type 0
Lends (Ok field) step = step ≡ Ok field.now
Lends (Err cause) step = step ≡ Err cause

-- a text that gave nothing was refused, or memory ran out
abbrev pub TextFails : {T : Type 0} → TextError → Result T Refusal → Type 0
TextFails text.Memory step = Unit {0}
TextFails (text.Line refusal) step = step ≡ Err refusal

-- a text gave what the definition says
abbrev pub GivesText : {T : Type 0} → Result T TextError → Result T Refusal → Type 0
GivesText (Ok x) step = step ≡ Ok x
GivesText (Err e) step = TextFails e step

-- a text moved a draft as a definition says
abbrev pub MovesText : {T D : Type 0} → Result D TextError → T → Result T Refusal → Type 0
MovesText (Ok done) next step = step ≡ Ok next
MovesText (Err e) next step = TextFails e step

-- the lines of a text that end with LF gave this draft, and these are the number of the next line and what stands there
pub record IsEnded {Draft Whole : Type 0} (form : TextForm Draft Whole) (bytes : List ℕ) (draft : Draft) (number : ℕ)
    (rest : List ℕ) : Type 0 where
  pub ended : read_lines form form.start 1 (ended_lines bytes) ≡ Ok draft
  pub next : length (ended_lines bytes) + 1 ≡ number
  pub all : read_lines form form.start 1 (lines bytes) ≡ read_lines form draft number (last_line rest)
  pub count : length (lines bytes) + 1 ≡ number + length (last_line rest)
  pub room : number + length rest ≤ length bytes + 1

-- a line that ends with LF is the first bad one
pub record IsRefused {Draft Whole : Type 0} (form : TextForm Draft Whole) (bytes : List ℕ) (refusal : Refusal)
    : Type 0 where
  pub ended : read_lines form form.start 1 (ended_lines bytes) ≡ Err refusal
  pub all : read_lines form form.start 1 (lines bytes) ≡ Err refusal

-- the lines that end with LF gave nothing
abbrev pub EndFails : {Draft Whole : Type 0} → TextForm Draft Whole → TextError → List ℕ → Type 0
EndFails form text.Memory bytes = Unit {0}
EndFails form (text.Line refusal) bytes = IsRefused form bytes refusal

-- what the lines of a text that end with LF came to
abbrev pub Comes : {Draft Whole : Type 0} → TextForm Draft Whole → Result (Draft × ℕ × Bor (List ℕ)) TextError
    → List ℕ → Type 0
Comes form (Ok x) bytes = IsEnded form bytes x.0 x.1 x.2.now
Comes form (Err e) bytes = EndFails form e bytes
