-- What is read of a source, what is written to a sink, and what a command answers.
use Rattle.std.specs.Prelude.{◌≡◌, ◌≢◌, ◌⊎◌, ℕ, ◌+◌, ◌≤◌, List, ◌++◌, length, take, Option, IfSome}
use Rattle.std.specs.Io.KnownBytes.{Consumes, IsAtEnd, Appends}

-- the text that is read of a source: all bytes left, or one more than the limit
pub record IsSourceText (limit : ℕ) (old new : Option (List ℕ)) (text : List ℕ) : Type 0 where
  pub taken : Consumes old new text
  pub bound : length text ≤ limit + 1
  pub at_end : length text ≤ limit → IsAtEnd new

-- the same, of what was left before
abbrev pub IsTextOf : ℕ → Option (List ℕ) → List ℕ → Type 0
IsTextOf limit left text = IfSome left (λ bytes. text ≡ take (limit + 1) bytes)

-- what was written is a front of this text
abbrev pub AppendsFront : Option (List ℕ) → Option (List ℕ) → List ℕ → Type 0
AppendsFront old new whole = (front : List ℕ) × (rest : List ℕ) × (whole ≡ front ++ rest) × Appends old new front

-- a status, and all that is printed with it
pub record Answer : Type 0 where
  pub status : ℕ
  pub printed : List ℕ

-- this answer is given and all of it printed, unless the sink fails (6) or memory runs out (8); then a front of it is
pub record Answers (answer : Answer) (written written' : Option (List ℕ)) (status : ℕ) : Type 0 where
  pub verdict : status ≢ 6 → status ≢ 8 → (status ≡ answer.status) × Appends written written' answer.printed
  pub cut_short : (status ≡ 6) ⊎ (status ≡ 8) → AppendsFront written written' answer.printed
