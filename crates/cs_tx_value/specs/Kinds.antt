-- Types of several kinds: a byte says the kind, and then what this kind holds stands.
use Rattle.std.specs.Prelude.{ℕ, List}
use Rattle.std.specs.Int.{w8}
use Rattle.cs_base.specs.Fields.{Found, ◌>>=◌, number_at}

-- the kind, and what stands behind it
unfoldable pub kinds_at : {X : Type 0} → (ℕ → List ℕ → Found X) → List ℕ → Found X
kinds_at kind_at bytes = do
  kind ← number_at w8 bytes
  kind_at kind.0 kind.1
