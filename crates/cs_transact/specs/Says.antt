-- The transaction that a text says, or the first cause for which it says none.
use Rattle.std.specs.Prelude.{◌≡◌, ◌⊎◌, ℕ, ◌<◌, ◌≤◌, List, length, Some, None, Result, Ok, Err}
use Rattle.cs_base.specs.declared.limits.TheConstants.{MOST_TX}
use Rattle.cs_tx_types.specs.declared.limits.TheConstants.{MOST_TRACES}
use Rattle.cs_tx_types.specs.declared.trace.Trace.{Trace}
use Rattle.cs_tx_types.specs.declared.transaction.Tx.{Tx}
use Rattle.cs_tx_types.specs.Transaction.{TxFits, tx_of, tx_encoding}
use Rattle.cs_transact.specs.Reading.{traces_of}
use Rattle.cs_transact.specs.Fitting.{IsPast}
use Rattle.cs_transact.specs.Formed.{first_failed}
use Rattle.cs_transact.specs.declared.refusal.Refusal.{Refusal}
use Rattle.cs_transact.specs.declared.refusal.Refusal.TheVariants.{Large}

-- one to 16
abbrev pub IsFew : List Trace → Type 0
IsFew traces = (1 ≤ length traces) × (length traces ≤ MOST_TRACES)

-- a transaction as it stands, which fails none of the tests; or the first that it fails
abbrev pub PassesTests : Tx → Result Tx Refusal → Type 0
PassesTests tx (Ok made) = (made ≡ tx) × (first_failed tx ≡ None)
PassesTests tx (Err refusal) = first_failed tx ≡ Some refusal

-- why traces within their limits are no transaction: together they are too large, or a test fails
abbrev pub FailsAs : Tx → Refusal → Type 0
FailsAs tx refusal =
    ((MOST_TX < length (tx_encoding tx)) × (refusal ≡ Large)) ⊎ (TxFits tx × (first_failed tx ≡ Some refusal))

-- what traces come to
abbrev pub Come : List Trace → Result Tx Refusal → Type 0
Come traces (Ok tx) = (tx ≡ tx_of traces) × TxFits tx × (first_failed tx ≡ None)
Come traces (Err refusal) =
    IsPast 0 traces (Some refusal) ⊎ (IsPast 0 traces None × FailsAs (tx_of traces) refusal)

-- what was read of a text comes to
abbrev pub ReadComes : Result (List Trace) Refusal → Result Tx Refusal → Type 0
ReadComes (Ok traces) result = Come traces result
ReadComes (Err refusal) result = result ≡ Err refusal

abbrev pub TextSays : List ℕ → Result Tx Refusal → Type 0
TextSays text result = ReadComes (traces_of text) result
