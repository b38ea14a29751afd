use Rattle.std.proofs.Common.{◌≡◌, ℕ, ◌+◌, ap, sym, ◌∙◌, arith}
use Rattle.cs_approve.specs.Approval.{is_trace_approved, is_trace_said, is_said}
use Rattle.cs_approve.proofs.Each.{said_each}
use Rattle.cs_approve.proofs.judging.books_approve_what_they_say.Goals as goal

pub returns : goal.returns
returns c = λ contracts tx.
    let here : (k : ℕ) → 0 + k ≡ k = λ k. omega arith in
    sym (said_each (is_trace_approved contracts tx.traces) (is_said contracts tx) 0 tx.traces
    (λ k t is. ap (is_said contracts tx) (here k) ∙ ap (is_trace_said contracts tx.traces) is))
