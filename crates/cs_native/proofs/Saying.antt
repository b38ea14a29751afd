-- What is said of each trace is found place by place.
use Rattle.std.proofs.Common.{◌≡◌, ℕ, zero, suc, ◌+◌, ◌<◌, Bool, true, false, List, [], ◌∷◌, drop, length, refl, sym, ap, ◌∙◌, arith}
use Rattle.std.specs.Prelude.{◌&&◌}
use Rattle.cs_tx_types.specs.declared.trace.Trace.{Trace}
use Rattle.cs_approve.specs.Approval.{is_said_from}

said_there : (said : ℕ → Bool) (place k : ℕ) (traces : List Trace) → k < length traces
    → is_said_from said place (drop k traces) ≡ (said place && is_said_from said (place + 1) (drop (suc k) traces))
said_there said place k [] there = absurd (omega arith)
said_there said place zero (t ∷ traces) there = refl
said_there said place (suc k) (t ∷ traces) there = said_there said place k traces (omega arith)

module _ (said : ℕ → Bool) (place : ℕ) (traces : List Trace) (total : Bool) (there : place < length traces)
    (so_far : is_said_from said place (drop place traces) ≡ total) where
  said_here : is_said_from said place (drop place traces) ≡ (said place && is_said_from said (place + 1) (drop (place + 1) traces))
  said_here =
      let next : suc place ≡ place + 1 = omega arith in
      said_there said place place traces there ∙ ap (λ k. said place && is_said_from said (place + 1) (drop k traces)) next

  pub says_on : said place ≡ true → is_said_from said (place + 1) (drop (place + 1) traces) ≡ total
  says_on here = sym (ap (λ b. b && is_said_from said (place + 1) (drop (place + 1) traces)) here) ∙ sym said_here ∙ so_far

  pub says_no : said place ≡ false → false ≡ total
  says_no here = sym (ap (λ b. b && is_said_from said (place + 1) (drop (place + 1) traces)) here) ∙ sym said_here ∙ so_far
