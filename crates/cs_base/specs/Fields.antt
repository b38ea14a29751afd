-- Fields at the front of a list of bytes: the value that stands there, and the bytes after it.
use Rattle.std.specs.Prelude.{◌≡◌, ℕ, zero, suc, ◌-◌, ◌<◌, Bool, List, [], ◌∷◌, ◌++◌, length, take, drop, get_or, Option, Some, None, Result, Ok, Err, nat_lt, nat_le, ◌==◌, if◌then◌else◌}
use Rattle.std.specs.Int.{Width, w8, byte_len, from_be_bytes}

-- each of the numbers is a byte
abbrev pub IsBytes : List ℕ → Type 0
IsBytes bytes = (i : ℕ) → get_or bytes i 0 < 256

-- one list after the other, of the things' encodings
abbrev pub each : {X : Type 0} → (X → List ℕ) → List X → List ℕ
each write [] = []
each write (x ∷ xs) = write x ++ each write xs

-- a count in one byte, and the things one after the other
abbrev pub counted : {X : Type 0} → (X → List ℕ) → List X → List ℕ
counted write xs = length xs ∷ each write xs

-- what a reader finds at the front of bytes, and the bytes behind it; nothing where none of its things stands there
abbrev pub Found : Type 0 → Type 0
Found X = Option (X × List ℕ)

-- a step, and the next one with what it found
infixl 10 ◌>>=◌
abbrev pub ◌>>=◌ : {A B : Type 0} → Option A → (A → Option B) → Option B
(Some x) >>= f = f x
None >>= f = None

-- what is found, seen in another way
infixl 10 ◌<$>◌
abbrev pub ◌<$>◌ : {A B : Type 0} → (A → B) → Found A → Found B
f <$> (Some x) = Some (f x.0, x.1)
f <$> None = None

-- the next n bytes
abbrev pub bytes_at : ℕ → List ℕ → Found (List ℕ)
bytes_at n bytes = if nat_lt (length bytes) n then None else Some (take n bytes, drop n bytes)

-- an unsigned number, its highest byte first
abbrev pub number_at : Width → List ℕ → Found ℕ
number_at w bytes =
    if nat_lt (length bytes) (byte_len w) then None
    else Some (from_be_bytes w (take (byte_len w) bytes), drop (byte_len w) bytes)

-- a number of at most so much, and then what it decides
unfoldable pub upto_at : {X : Type 0} → Width → ℕ → (ℕ → List ℕ → Found X) → List ℕ → Found X
upto_at w most then_at bytes = do
  n ← number_at w bytes
  if nat_le n.0 most then then_at n.0 n.1 else None

-- n things, one after the other
unfoldable pub many_at : {X : Type 0} → (List ℕ → Found X) → ℕ → List ℕ → Found (List X)
many_at read zero bytes = Some ([], bytes)
many_at read (suc n) bytes = do
  first ← read bytes
  others ← many_at read n first.1
  Some (first.0 ∷ others.0, others.1)

-- a count of at most so many, and the things
abbrev pub counted_at : {X : Type 0} → ℕ → (List ℕ → Found X) → List ℕ → Found (List X)
counted_at most read = upto_at w8 most (many_at read)

-- a count of one to so many, and the things
unfoldable pub some_at : {X : Type 0} → ℕ → (List ℕ → Found X) → List ℕ → Found (List X)
some_at most read bytes = do
  n ← number_at w8 bytes
  if nat_le 1 n.0 then (if nat_le n.0 most then many_at read n.0 n.1 else None) else None

-- one thing after another
unfoldable pub pair_at : {X Y : Type 0} → (List ℕ → Found X) → (List ℕ → Found Y) → List ℕ → Found (X × Y)
pair_at first_at second_at bytes = do
  first ← first_at bytes
  second ← second_at first.1
  Some ((first.0, second.0), second.1)

-- a thing that passes a test
unfoldable pub tested_at : {X : Type 0} → (X → Bool) → (List ℕ → Found X) → List ℕ → Found X
tested_at test read bytes = do
  found ← read bytes
  if test found.0 then Some found else None

-- a thing of at most so many bytes
unfoldable pub within_at : {X : Type 0} → ℕ → (List ℕ → Found X) → List ℕ → Found X
within_at most read bytes = do
  found ← read bytes
  if nat_le (length bytes - length found.1) most then Some found else None

-- the bytes behind what is found
abbrev pub behind : {X : Type 0} → Found X → Option (List ℕ)
behind (Some x) = Some x.1
behind None = None

-- What a call answered is what a reader finds, and the cursor then stands behind it. Where the reader finds nothing,
-- the cursor stays.
abbrev pub Reads : {X E : Type 0} → Result X E → List ℕ → List ℕ → Found X → Type 0
Reads (Ok x) before after found = found ≡ Some (x, after)
Reads (Err e) before after found = (found ≡ None) × (after ≡ before)

-- what was taken from the front of the bytes
pub record Splits (bytes text rest : List ℕ) : Type 0 where
  pub parts : bytes ≡ text ++ rest
  pub rest_fits : IsBytes rest

-- The two directions of one form: what is found fits and was written so, and what fits is found again where it was
-- written.
pub record IsForm {X : Type 0} (write : X → List ℕ) (Fits : X → Type 0) (read : List ℕ → Found X) : Type 0 where
  pub takes : (bytes : List ℕ) (x : X) (rest : List ℕ)
      → IsBytes bytes → read bytes ≡ Some (x, rest) → Splits bytes (write x) rest × Fits x
  pub again : (x : X) (rest : List ℕ) → Fits x → read (write x ++ rest) ≡ Some (x, rest)

-- a reader's find, where nothing is left behind it
abbrev pub whole_at : {X : Type 0} → (List ℕ → Found X) → List ℕ → Option X
whole_at read bytes = do
  found ← read bytes
  if length found.1 == 0 then Some found.0 else None
