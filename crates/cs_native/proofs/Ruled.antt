-- What the rules and the book say trace by trace is what is approved.
use Rattle.std.proofs.Common.{◌≡◌, ℕ, ◌+◌, Bool, Option, Some, ap, ◌∙◌, arith}
use Rattle.std.specs.Prelude.{slice_get}
use Rattle.cs_tx_types.specs.declared.trace.Trace.{Trace}
use Rattle.cs_tx_types.specs.declared.transaction.Tx.{Tx}
use Rattle.cs_approve.specs.Books.{Contracts}
use Rattle.cs_approve.specs.Approval.{is_trace_said, is_said, is_said_of_each}
use Rattle.cs_approve.proofs.Each.{said_each}
use Rattle.cs_native.specs.Ruling.{ruled_or, is_said_behind}
use Rattle.cs_native.specs.Hashlock.{hashlock_id, is_hashlock}
use Rattle.cs_native.specs.Sum.{sum_id, is_sum}
use Rattle.cs_native.specs.Signed.{signed_id, is_signed}
use Rattle.cs_native.specs.Approval.{is_trace_approved_with_rules, is_approved_with_rules}

-- what is said of the trace in a place, the rules being asked before the book
abbrev pub said_with_rules : Contracts → Tx → ℕ → Bool
said_with_rules contracts =
    is_said_behind signed_id is_signed (is_said_behind sum_id is_sum (is_said_behind hashlock_id is_hashlock (is_said contracts)))

ruled_trace : (contracts : Contracts) (tx : Tx) (k : ℕ) (t : Trace) → slice_get tx.traces k ≡ Some t
    → said_with_rules contracts tx k ≡ is_trace_approved_with_rules contracts tx.traces t
ruled_trace contracts tx k t is =
    let said : Option Trace → Bool =
    λ there. ruled_or signed_id is_signed (ruled_or sum_id is_sum (ruled_or hashlock_id is_hashlock (is_trace_said contracts tx.traces there) there) there) there in
    ap said is

pub ruled : (contracts : Contracts) (tx : Tx) → is_said_of_each (said_with_rules contracts) tx ≡ is_approved_with_rules contracts tx
ruled contracts tx =
    let here : (k : ℕ) → 0 + k ≡ k = λ k. omega arith in
    said_each (is_trace_approved_with_rules contracts tx.traces) (said_with_rules contracts tx) 0 tx.traces
    (λ k t is. ap (said_with_rules contracts tx) (here k) ∙ ruled_trace contracts tx k t is)
