-- What the fields of a line say, or why they are refused: their count is tested first, then each in its order.
use Rattle.std.specs.Prelude.{ℕ, ◌==◌, nat_le, List, [], ◌∷◌, length, Result, Ok, Err, if◌then◌else◌}
use Rattle.std.specs.Option.{ok_or}
use Rattle.cs_base.specs.Codes.{number_of, bytes_of}
use Rattle.cs_text.specs.declared.cause.Cause.{Cause}
use Rattle.cs_text.specs.declared.cause.Cause.TheVariants as cause

-- a step, and the next one with what it gave; the first cause decides
infixl 10 ◌>>=◌
abbrev pub ◌>>=◌ : {A B : Type 0} → Result A Cause → (A → Result B Cause) → Result B Cause
(Ok x) >>= f = f x
(Err cause) >>= f = Err cause

-- a number of at most so much
abbrev pub number_within : ℕ → List ℕ → Result ℕ Cause
number_within most field = do
  n ← ok_or (number_of field) cause.Number
  if nat_le n most then Ok n else Err cause.Limit

-- bytes in hex, at most so many
abbrev pub bytes_within : ℕ → List ℕ → Result (List ℕ) Cause
bytes_within most field = do
  bytes ← ok_or (bytes_of field) cause.Hex
  if nat_le (length bytes) most then Ok bytes else Err cause.Limit

-- 32 bytes in hex
abbrev pub digest_in : List ℕ → Result (List ℕ) Cause
digest_in field = do
  bytes ← ok_or (bytes_of field) cause.Hex
  if length bytes == 32 then Ok bytes else Err cause.Hex

-- a line of one field
abbrev pub only_field : List (List ℕ) → Result (List ℕ) Cause
only_field (field ∷ []) = Ok field
only_field _ = Err cause.Count

-- a line of its word alone
abbrev pub no_field : List (List ℕ) → Result (Unit {0}) Cause
no_field [] = Ok tt
no_field (field ∷ fields) = Err cause.Count

-- a line of one number
abbrev pub number_said : List (List ℕ) → Result ℕ Cause
number_said fields = do
  field ← only_field fields
  ok_or (number_of field) cause.Number

-- a line of 32 bytes in hex
abbrev pub digest_said : List (List ℕ) → Result (List ℕ) Cause
digest_said fields = do
  field ← only_field fields
  digest_in field
