-- The votes of logs as they are kept.
use Rattle.std.specs.Prelude.{ℕ, List}
use Rattle.cs_ledger.specs.Ledger.{Bytes}

-- the shards that vote so on a session, each with the session's digest
pub record KeptVotes : Type 0 where
  pub commits : List (ℕ × Bytes)
  pub aborts : List (ℕ × Bytes)
