-- Which transactions nodes approve: by the rules written in Rust, and by a book of contracts.
use Rattle.std.specs.Prelude.{ℕ, Bool, List, bytes_eq, if◌then◌else◌}
use Rattle.std.specs.List.{list_all}
use Rattle.cs_tx_types.specs.declared.trace.Trace.{Trace}
use Rattle.cs_tx_types.specs.declared.transaction.Tx.{Tx}
use Rattle.cs_approve.specs.Books.{Contracts, contracts_of}
use Rattle.cs_approve.specs.Approval.{is_trace_approved}
use Rattle.cs_native.specs.Hashlock.{hashlock_id, is_hashlock}
use Rattle.cs_native.specs.Sum.{sum_id, is_sum}
use Rattle.cs_native.specs.Signed.{signed_id, is_signed}

-- a rule is asked under its id, and for every other contract the book
abbrev pub is_trace_approved_with_rules : Contracts → List Trace → Trace → Bool
is_trace_approved_with_rules contracts traces t =
    if bytes_eq t.contract signed_id then is_signed t
    else if bytes_eq t.contract sum_id then is_sum t
    else if bytes_eq t.contract hashlock_id then is_hashlock t
    else is_trace_approved contracts traces t

-- the check of each trace says yes
abbrev pub is_approved_with_rules : Contracts → Tx → Bool
is_approved_with_rules contracts tx = list_all (is_trace_approved_with_rules contracts tx.traces) tx.traces

-- what nodes with the book of these texts approve
abbrev pub is_approved_by : List (List ℕ) → Tx → Bool
is_approved_by texts = is_approved_with_rules (contracts_of texts)
