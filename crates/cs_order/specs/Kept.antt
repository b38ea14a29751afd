-- What is kept of a log that was cut.
use Rattle.std.specs.Prelude.{◌≡◌, ℕ, ◌≤◌, List, length, drop}
use Rattle.cs_order.specs.declared.proposed.Proposed.{Proposed}

-- the entries are those of the log from a slot on, which isn't above its next one
pub record KeepsFrom (first : ℕ) (entries log : List Proposed) : Type 0 where
  pub within : first ≤ length log
  pub entries_are : entries ≡ drop first log
