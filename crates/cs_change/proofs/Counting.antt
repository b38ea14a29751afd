-- Where fewer numbers pass a test, fewer are counted.
use Rattle.std.proofs.Common.{◌≡◌, ℕ, zero, suc, ◌+◌, ◌≤◌, nat_le, Bool, true, false, if◌then◌else◌, refl, leb-true, le-leb, arith}
use Rattle.cs_order.specs.Counts.{count_below}

more : (a b : Bool) (x y : ℕ) → (a ≡ true → b ≡ true) → x ≤ y → (if a then 1 else 0) + x ≤ (if b then 1 else 0) + y
more true true x y h less = omega arith
more true false x y h less = absurd (let no = h refl in cc)
more false true x y h less = omega arith
more false false x y h less = omega arith

pub count_more : (n : ℕ) (p q : ℕ → Bool) → ((m : ℕ) → p m ≡ true → q m ≡ true) → count_below n p ≤ count_below n q
unfolding count_below
count_more zero p q h = omega arith
count_more (suc n) p q h = more (p n) (q n) (count_below n p) (count_below n q) (h n) (count_more n p q h)

pub enough_more : (k n : ℕ) (p q : ℕ → Bool) → ((m : ℕ) → p m ≡ true → q m ≡ true) → nat_le k (count_below n p) ≡ true → nat_le k (count_below n q) ≡ true
enough_more k n p q h enough =
    let few = leb-true k (count_below n p) enough in
    let upto = count_more n p q h in
    le-leb k (count_below n q) (omega arith)

-- the other way round
pub falls_back : (a b : Bool) → (a ≡ true → b ≡ true) → b ≡ false → a ≡ false
falls_back true b h fails = absurd (let holds = h refl in let not = fails in cc)
falls_back false b h fails = refl

-- no number below passes
pub count_zero : (n : ℕ) (p : ℕ → Bool) → ((m : ℕ) → p m ≡ false) → count_below n p ≡ 0
unfolding count_below
count_zero zero p none = refl
count_zero (suc n) p none = rw (none n, count_zero n p none) refl
