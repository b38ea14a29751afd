-- A rule before a clerk.
use Rattle.std.specs.Prelude.{ℕ, Bool, List, bytes_eq, slice_get, Option, Some, None, if◌then◌else◌}
use Rattle.cs_tx_types.specs.declared.trace.Trace.{Trace}
use Rattle.cs_tx_types.specs.declared.transaction.Tx.{Tx}

-- of a trace whose contract is the rule's id the rule says whether it is approved, of another the clerk behind it
abbrev pub ruled_or : List ℕ → (Trace → Bool) → Bool → Option Trace → Bool
ruled_or id is_met said None = said
ruled_or id is_met said (Some t) = if bytes_eq t.contract id then is_met t else said

abbrev pub is_said_behind : List ℕ → (Trace → Bool) → (Tx → ℕ → Bool) → Tx → ℕ → Bool
is_said_behind id is_met said tx place = ruled_or id is_met (said tx place) (slice_get tx.traces place)
