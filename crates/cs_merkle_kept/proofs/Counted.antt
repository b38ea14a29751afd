-- How many joins the levels take together.
use Rattle.std.proofs.Common.{◌≡◌, ℕ, zero, suc, ◌+◌, ◌-◌, ◌*◌, ◌/◌, ◌<◌, ◌≤◌, min, refl, inl, inr, arith}
use Rattle.std.proofs.Math.Nat.{mul-le-mul_left}
use Rattle.std.proofs.lemmas.Bool.{cases_lt, lt-ltb, le-ltb}
use Rattle.cs_merkle_kept.specs.Changes.{kept_above}
use Rattle.cs_merkle_kept.specs.Counts.{joins_at, most_joins}
use Rattle.cs_merkle_kept.proofs.Stale.{kept_some, kept_all}

pub joins_one : (count place : ℕ) → 2 * place + 1 < count → joins_at count place ≡ 1
joins_one count place there = rw (lt-ltb (2 * place + 1) count there) refl

pub joins_none : (count place : ℕ) → count ≤ 2 * place + 1 → joins_at count place ≡ 0
joins_none count place last = rw (le-ltb (2 * place + 1) count last) refl

-- a node more is a join more where it isn't the last one alone
pub joins_more : (count place : ℕ) →
    min (place + 1) (count / 2) ≡ min place (count / 2) + joins_at count place
joins_more count place =
    elim (cases_lt (2 * place + 1) count) [
      | inl there ↦ omega (arith, joins_one count place there, there)
      | inr last ↦ omega (arith, joins_none count place last, last)
    ]

pub joins_few : (count place : ℕ) → joins_at count place ≤ 1
joins_few count place =
    elim (cases_lt (2 * place + 1) count) [
      | inl there ↦ omega (arith, joins_one count place there)
      | inr last ↦ omega (arith, joins_none count place last)
    ]

pub most_none : (changed moved height : ℕ) → moved ≡ 0 →
    most_joins changed moved height ≡ changed * height
most_none changed zero height none = refl
most_none changed (suc moved) height none = absurd (omega (arith, none))

pub most_some : (changed moved height : ℕ) → 0 < moved →
    most_joins changed moved height ≡ moved + (changed + 1) * height
most_some changed zero height some = absurd (omega (arith, some))
most_some changed (suc moved) height some = refl

-- a level more
pub few_more : (k n first h start one two : ℕ) → 1 < n →
    one ≤ start + k + (n / 2 - kept_above first n) →
    two ≤ one + most_joins k ((n + 1) / 2 - kept_above first n) h →
    two ≤ start + most_joins k (n - first) (suc h)
few_more k n first h start one two many a b =
    elim (cases_lt first n) [
      | inl some ↦
          let is = kept_some first n some in
          let below = most_some k ((n + 1) / 2 - kept_above first n) h (omega (arith, is, some)) in
          let here = most_some k (n - first) (suc h) (omega (arith, some)) in
          omega (arith, a, b, is, below, here, some)
      | inr none ↦
          let is = kept_all first n none in
          let below = most_none k ((n + 1) / 2 - kept_above first n) h (omega (arith, is)) in
          let here = most_none k (n - first) (suc h) (omega (arith, none)) in
          omega (arith, a, b, is, below, here)
    ]

-- the same, of what a level gives
pub few_step : (k k' n n' first kept h h' start one two : ℕ) → k' ≡ k → n' ≡ (n + 1) / 2 →
    kept ≡ kept_above first n → h' ≡ suc h → 1 < n → one ≤ start + k' + (n / 2 - kept) →
    two ≤ one + most_joins k' (n' - kept) h → two ≤ start + most_joins k (n - first) h'
few_step k k' n n' first kept h h' start one two same_k half is height many a b =
    rw height (few_more k n first h start one two many (rw (same_k, is) at a)
    (rw (same_k, half, is) at b))

-- under a greater height
pub more_room : (k low high : ℕ) → low ≤ high → k * low ≤ k * high
more_room k low high less = mul-le-mul_left k less
