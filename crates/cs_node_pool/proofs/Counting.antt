-- The members that a tally has are those whose votes stand in the list.
use Rattle.std.proofs.Common.{◌≡◌, ℕ, zero, suc, ◌+◌, ◌<◌, Bool, if◌then◌else◌, refl, arith}
use Rattle.cs_order.specs.Counts.{count_below}

pub count-alike : (n : ℕ) (p q : ℕ → Bool) → ((m : ℕ) → m < n → p m ≡ q m) → count_below n p ≡ count_below n q
unfolding count_below
count-alike zero p q same = refl
count-alike (suc n) p q same =
    let here : p n ≡ q n = same n (omega arith) in
    let rest : count_below n p ≡ count_below n q = count-alike n p q (λ m less. same m (omega arith)) in
    λ i. (if here i then 1 else 0) + rest i
