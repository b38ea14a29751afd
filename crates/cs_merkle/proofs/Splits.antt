-- The left half has the largest power of two below the number of leaves; no other is one.
use Rattle.std.proofs.Common.{◌≡◌, ℕ, zero, suc, ◌-◌, ◌*◌, ◌^◌, ◌%◌, ◌<◌, ◌≤◌, nat_lt, refl, ap, sym, ◌∙◌, inl, inr, arith}
use Rattle.std.proofs.Math.Nat.{pow-suc}
use Rattle.std.proofs.lemmas.Nat.{pow_pos, one_shl}
use Rattle.std.proofs.Math.Pow.{pow_mono}
use Rattle.std.proofs.lemmas.Bool.{cond_both, ltb-true, ltb-false, cases_order}
use Rattle.cs_merkle.specs.Tree.{power_below, split}
use Rattle.cs_merkle.specs.Standard.{IsLargestPowerBelow}

double : (e : ℕ) → 2 ^ suc e ≡ 2 * 2 ^ e
double e = omega (arith, pow-suc 2 e)

below_power : (n : ℕ) → n < 2 ^ n
below_power zero = pow_pos 0
below_power (suc n) = omega (arith, double n, below_power n)

is_power : (e n : ℕ) → (j : ℕ) × (power_below e n ≡ 2 ^ j)
is_power zero n = (0, refl)
is_power (suc e) n =
    cond_both (nat_lt (2 ^ suc e) n) (2 ^ suc e) (power_below e n) (λ k. (j : ℕ) × (k ≡ 2 ^ j))
    (λ fits. (suc e, refl)) (λ large. is_power e n)

is_smaller : (e n : ℕ) → 1 < n → power_below e n < n
is_smaller zero n some = some
is_smaller (suc e) n some =
    cond_both (nat_lt (2 ^ suc e) n) (2 ^ suc e) (power_below e n) (λ k. k < n)
    (λ fits. ltb-true (2 ^ suc e) n fits) (λ large. is_smaller e n some)

is_largest : (e n : ℕ) → n ≤ 2 * 2 ^ e → n ≤ 2 * power_below e n
is_largest zero n few = few
is_largest (suc e) n few =
    cond_both (nat_lt (2 ^ suc e) n) (2 ^ suc e) (power_below e n) (λ k. n ≤ 2 * k)
    (λ fits. few) (λ large. is_largest e n (omega (arith, double e, ltb-false (2 ^ suc e) n large)))

pub split_is : (n : ℕ) → 1 < n → IsLargestPowerBelow n (split n)
unfolding split
split_is n some = record {
  power = is_power n n;
  smaller = is_smaller n n some;
  largest = is_largest n n (omega (arith, below_power n));
}

apart : (i j n : ℕ) → i < j → 2 ^ j < n → n ≤ 2 * 2 ^ i → ⊥
apart i j n less smaller largest =
    let mono : 2 ^ suc i ≤ 2 ^ j = pow_mono (omega (arith, less)) in
    omega (arith, double i, mono)

-- two numbers that are the largest power of two below n are one
pub one_power : (n k m : ℕ) → IsLargestPowerBelow n k → IsLargestPowerBelow n m → k ≡ m
one_power n k m a b =
    let (i, k_is) = a.power in
    let (j, m_is) = b.power in
    let small_k = a.smaller in
    let small_m = b.smaller in
    let large_k = a.largest in
    let large_m = b.largest in
    elim (cases_order i j) [
      | inl same ↦ k_is ∙ ap (λ (e : ℕ). 2 ^ e) same ∙ sym m_is
      | inr differ ↦ elim differ [
        | inl less ↦ absurd (apart i j n less (rw (← m_is) small_m) (rw (← k_is) large_k))
        | inr more ↦ absurd (apart j i n more (rw (← k_is) small_k) (rw (← m_is) large_m))
      ]
    ]

pub two_or_more : (n k : ℕ) → IsLargestPowerBelow n k → 1 < n
two_or_more n k is =
    let (e, power) = is.power in
    omega (arith, pow_pos e, power, is.smaller)

pub is_split : (n k : ℕ) → IsLargestPowerBelow n k → k ≡ split n
is_split n k is = one_power n k (split n) is (split_is n (two_or_more n k is))

pub split_positive : (n : ℕ) → 1 < n → 0 < split n
split_positive n some =
    let (e, power) = (split_is n some).power in
    omega (arith, pow_pos e, power)

pub split_below : (n : ℕ) → 1 < n → split n < n
split_below n some = (split_is n some).smaller

-- the power of two that a number's highest bit is
pub split_by_bits : (e n : ℕ) → 1 < n → e < 64 → 2 ^ e ≤ n - 1 → n - 1 < 2 * 2 ^ e →
    1 * 2 ^ e % 2 ^ 64 ≡ split n
split_by_bits e n some few low high =
    one_shl e 64 few ∙ is_split n (2 ^ e) (record {
      power = (e, refl);
      smaller = omega (arith, low, some);
      largest = omega (arith, high);
    })
