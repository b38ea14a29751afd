-- Where no trace is refused, the transaction is approved.
use Rattle.std.proofs.Common.{◌≡◌, ℕ, ◌+◌, true, false, cond, List, [], ◌∷◌, Some, None, refl, sym}
use Rattle.std.specs.Prelude.{◌&&◌}
use Rattle.std.specs.List.{list_all}
use Rattle.cs_tx_types.specs.declared.trace.Trace.{Trace}
use Rattle.cs_tx_types.specs.declared.transaction.Tx.{Tx}
use Rattle.cs_approve.specs.Books.{Contracts}
use Rattle.cs_approve.specs.Approval.{is_trace_approved, is_approved}
use Rattle.cs_proc.specs.Answering.{first_no_from, first_no}

module _ (contracts : Contracts) (all : List Trace) where
  none_from : (number : ℕ) (ts : List Trace) → first_no_from contracts all number ts ≡ None → list_all (is_trace_approved contracts all) ts ≡ true
  none_from number [] is = refl
  none_from number (t ∷ ts) is =
      (elim (is_trace_approved contracts all t) as (λ b. cond b (first_no_from contracts all (number + 1) ts) (Some number) ≡ None → b && list_all (is_trace_approved contracts all) ts ≡ true) [
        | true ↦ λ later. none_from (number + 1) ts later
        | false ↦ λ here. absurd cc
      ]) is

pub all_approved : (contracts : Contracts) (tx : Tx) → None ≡ first_no contracts tx.traces → is_approved contracts tx ≡ true
all_approved contracts tx is = none_from contracts tx.traces 0 tx.traces (sym is)
