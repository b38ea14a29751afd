-- Values behind their length in four bytes.
use Rattle.std.specs.Prelude.{ℕ, ◌-◌, ◌==◌, List, ◌++◌, length, Some, None, if◌then◌else◌}
use Rattle.std.specs.Int.{w32, to_be_bytes}
use Rattle.cs_base.specs.Fields.{Found, ◌>>=◌, number_at}

-- the length of the encoding, and the encoding
unfoldable pub sized : {X : Type 0} → (X → List ℕ) → X → List ℕ
sized write x = to_be_bytes w32 (length (write x)) ++ write x

-- a length, and a thing of just so many bytes
unfoldable pub sized_at : {X : Type 0} → (List ℕ → Found X) → List ℕ → Found X
sized_at read bytes = do
  size ← number_at w32 bytes
  found ← read size.1
  if length size.1 - length found.1 == size.0 then Some found else None
