-- Which transactions a book of contracts approves.
use Rattle.std.specs.Prelude.{ℕ, ◌+◌, Bool, true, false, ◌&&◌, List, [], ◌∷◌, bytes_eq, slice_get, Option, Some, None, if◌then◌else◌}
use Rattle.std.specs.List.{list_all}
use Rattle.cs_tx_types.specs.declared.trace.Trace.{Trace}
use Rattle.cs_tx_types.specs.declared.transaction.Tx.{Tx}
use Rattle.cs_tx.specs.Token.{token_id, is_transfer}
use Rattle.cs_types.specs.Accepted.{Accepted}
use Rattle.cs_eval_law.specs.Checks.{says}
use Rattle.cs_approve.specs.Books.{Contracts, contract_under}
use Rattle.cs_approve.specs.Seen.{view_of_trace}

-- the check of the trace's method says yes; a contract that the book doesn't hold says no
abbrev pub says_yes : Option Accepted → List Trace → Trace → Bool
says_yes None traces t = false
says_yes (Some a) traces t = says a.contract t.method (view_of_trace traces t)

-- `token` is always there, under its id, and no other contract is asked for it
abbrev pub is_trace_approved : Contracts → List Trace → Trace → Bool
is_trace_approved contracts traces t =
    if bytes_eq t.contract token_id then is_transfer t
    else says_yes (contract_under t.contract contracts) traces t

-- the check of each trace says yes
abbrev pub is_approved : Contracts → Tx → Bool
is_approved contracts tx = list_all (is_trace_approved contracts tx.traces) tx.traces

-- ---- trace by trace

-- what is said of the trace in a place; where there is none it is no
abbrev pub is_trace_said : Contracts → List Trace → Option Trace → Bool
is_trace_said contracts traces None = false
is_trace_said contracts traces (Some t) = is_trace_approved contracts traces t

abbrev pub is_said : Contracts → Tx → ℕ → Bool
is_said contracts tx place = is_trace_said contracts tx.traces (slice_get tx.traces place)

-- yes is said of each of these traces, of which the first stands in this place
abbrev pub is_said_from : (ℕ → Bool) → ℕ → List Trace → Bool
is_said_from said place [] = true
is_said_from said place (t ∷ traces) = said place && is_said_from said (place + 1) traces

-- yes is said of each trace
abbrev pub is_said_of_each : (Tx → ℕ → Bool) → Tx → Bool
is_said_of_each said tx = is_said_from (said tx) 0 tx.traces
