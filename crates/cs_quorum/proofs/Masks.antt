-- A mask as the set of the members whose bits are one.
use Rattle.std.proofs.Common.{◌≡◌, ℕ, zero, suc, ◌+◌, ◌*◌, ◌/◌, ◌%◌, ◌^◌, ◌<◌, ◌≤◌, ◌==◌, ◌||◌, Bool, if◌then◌else◌, refl, sym, ap, ap₂, ◌∙◌, arith, subst, add-one, one-add, shr-shr, shr_lt, bit_or, max, inl, inr, w16}
use Rattle.std.specs.Int.{bit_at}
use Rattle.std.specs.Int.Count.{ones, ones_step}
use Rattle.std.proofs.lemmas.Nat.Bits.{bit_at-lt, bit_at_lowest, bit_at_or, bit_at_set_same, bit_at_set_other}
use Rattle.std.proofs.lemmas.Nat.{or_lt}
use Rattle.std.proofs.Math.Nat.{mod-le}
use Rattle.std.proofs.Math.Pow.{pow-lt}
use Rattle.std.proofs.lemmas.Bool.Decides.{eqb_tells}
use Rattle.cs_order.specs.Counts.{count_below}

-- the bit of a member is one
abbrev pub has : ℕ → ℕ → Bool
has mask member = bit_at mask member == 1

abbrev one_if : Bool → ℕ
one_if b = if b then 1 else 0

count_from_bottom : (k : ℕ) (p : ℕ → Bool) → count_below (suc k) p ≡ one_if (p 0) + count_below k (λ m. p (suc m))
unfolding count_below
count_from_bottom zero p = refl
count_from_bottom (suc k) p = (let e = count_from_bottom k p in omega (arith, e))

same_count : (k : ℕ) (p q : ℕ → Bool) → ((m : ℕ) → p m ≡ q m) → count_below k p ≡ count_below k q
unfolding count_below
same_count zero p q h = refl
same_count (suc k) p q h = rw (h k, same_count k p q h) refl

bit_value : (b : ℕ) → b < 2 → one_if (b == 1) ≡ b
bit_value zero h = refl
bit_value (suc zero) h = refl
bit_value (suc (suc b)) h = absurd (omega arith)

bit_above : (n m : ℕ) → bit_at n (suc m) ≡ bit_at (n / 2) m
bit_above n m = ap (λ x. n / 2 ^ x % 2) (sym (one-add m)) ∙ ap (λ x. x % 2) (sym (shr-shr n 1 m))

lowest : (n : ℕ) → one_if (has n 0) ≡ n % 2
lowest n = bit_value (bit_at n 0) (bit_at-lt n 0) ∙ bit_at_lowest n

-- the ones of a mask are the members that it has
pub ones_count : (k n : ℕ) → n < 2 ^ k → ones n ≡ count_below k (has n)
unfolding count_below ones
ones_count zero n h = (let none : n ≡ 0 = omega arith in rw none refl)
ones_count (suc k) n h =
    ones_step n
    ∙ ap (λ x. n % 2 + x) (ones_count k (n / 2) (shr_lt k 1 (subst (λ x. n < 2 ^ x) (sym (add-one k)) h)))
    ∙ sym (count_from_bottom k (has n) ∙ ap₂ (λ (x y : ℕ). x + y) (lowest n) (same_count k (λ m. has n (suc m)) (has (n / 2)) (λ m. ap (λ x. x == 1) (bit_above n m))))

or_marks : (x y : ℕ) → x < 2 → y < 2 → (max x y == 1) ≡ ((x == 1) || (y == 1))
or_marks zero zero a b = refl
or_marks zero (suc zero) a b = refl
or_marks (suc zero) zero a b = refl
or_marks (suc zero) (suc zero) a b = refl
or_marks (suc (suc x)) y a b = absurd (omega arith)
or_marks zero (suc (suc y)) a b = absurd (omega arith)
or_marks (suc zero) (suc (suc y)) a b = absurd (omega arith)

either_marks : (n k m : ℕ) → has (bit_or n k) m ≡ (has n m || has k m)
either_marks n k m = ap (λ x. x == 1) (bit_at_or n k m) ∙ or_marks (bit_at n m) (bit_at k m) (bit_at-lt n m) (bit_at-lt k m)

-- the count of two masks together
pub either_count : (members n k : ℕ) → n < 2 ^ members → k < 2 ^ members → ones (bit_or n k) ≡ count_below members (λ m. has n m || has k m)
either_count members n k a b = ones_count members (bit_or n k) (or_lt members n k a b) ∙ same_count members (has (bit_or n k)) (λ m. has n m || has k m) (either_marks n k)

-- a member is marked by setting its bit
pub mark_marks : (n k m : ℕ) → k < 16 → has (bit_or n (1 * 2 ^ k % 2 ^ 16)) m ≡ ((m == k) || has n m)
mark_marks n k m h =
    elim (eqb_tells m k) [
      | inl same ↦ rw (same.0, same.1) (ap (λ x. x == 1) (bit_at_set_same w16 n k h))
      | inr other ↦ rw other.0 (ap (λ x. x == 1) (bit_at_set_other w16 n k h m other.1))
    ]

-- the bit of a member is below the power of the members
bit_below : (k members : ℕ) → k < members → 1 * 2 ^ k % 2 ^ 16 < 2 ^ members
bit_below k members less =
    let least : 1 * 2 ^ k % 2 ^ 16 ≤ 1 * 2 ^ k = mod-le (1 * 2 ^ k) (2 ^ 16) in
    let more : 2 ^ k < 2 ^ members = pow-lt less in
    omega (arith, least, more)

pub marked_below : (n k members : ℕ) → k < members → n < 2 ^ members → bit_or n (1 * 2 ^ k % 2 ^ 16) < 2 ^ members
marked_below n k members less below = or_lt members n (1 * 2 ^ k % 2 ^ 16) below (bit_below k members less)
