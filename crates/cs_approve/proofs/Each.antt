-- What is said of each trace, place by place, is what is approved of each.
use Rattle.std.proofs.Common.{◌≡◌, ℕ, ◌+◌, zero, suc, Bool, List, [], ◌∷◌, Some, refl, ap, ◌∙◌, arith}
use Rattle.std.specs.Prelude.{◌&&◌, slice_get}
use Rattle.std.specs.List.{list_all}
use Rattle.cs_tx_types.specs.declared.trace.Trace.{Trace}
use Rattle.cs_approve.specs.Approval.{is_said_from}

-- where of each of these traces that is said which is approved
pub said_each : (approved : Trace → Bool) (said : ℕ → Bool) (place : ℕ) (traces : List Trace)
    → ((k : ℕ) (t : Trace) → slice_get traces k ≡ Some t → said (place + k) ≡ approved t)
    → is_said_from said place traces ≡ list_all approved traces
said_each approved said place [] each = refl
said_each approved said place (t ∷ traces) each =
    let here : place ≡ place + zero = omega arith in
    let behind : (k : ℕ) → (place + 1) + k ≡ place + suc k = λ k. omega arith in
    let first : said place ≡ approved t = ap said here ∙ each zero t refl in
    let later = said_each approved said (place + 1) traces (λ k u is. ap said (behind k) ∙ each (suc k) u is) in
    ap (λ b. b && is_said_from said (place + 1) traces) first ∙ ap (λ b. approved t && b) later
