-- Bytes that are compared by their differing bits.
use Rattle.std.proofs.Common.{add-one, ◌≡◌, ℕ, zero, suc, ◌+◌, ◌<◌, ◌↔◌, List, [], ◌∷◌, length, get_or, take, refl, arith}
use Rattle.std.specs.Prelude.{bit_or, bit_xor}
use Rattle.std.specs.Int.Bits.{or_add_and, xor_add_and, xor_self}
use Rattle.std.proofs.lemmas.Nat.{and_le_l, and_le_r}

pub or_none : (a b : ℕ) → bit_or a b ≡ 0 → (a ≡ 0) × (b ≡ 0)
or_none a b e =
    (omega (arith, e, or_add_and a b, and_le_l a b, and_le_r a b), omega (arith, e, or_add_and a b, and_le_l a b, and_le_r a b))

pub xor_none : (a b : ℕ) → bit_xor a b ≡ 0 → a ≡ b
xor_none a b e = omega (arith, e, xor_add_and a b, and_le_l a b, and_le_r a b)

-- the bits in which the first i bytes differ are none exactly where these bytes are the same
abbrev pub AreAlike : ℕ → ℕ → List ℕ → List ℕ → Type 0
AreAlike differing i xs ys = (differing ≡ 0) ↔ (take i xs ≡ take i ys)

heads : (x y : ℕ) (xs ys : List ℕ) → x ∷ xs ≡ y ∷ ys → x ≡ y
heads x y xs ys e = cc

tails : (x y : ℕ) (xs ys : List ℕ) → x ∷ xs ≡ y ∷ ys → xs ≡ ys
tails x y xs ys e = cc

more_alike : (i : ℕ) (xs ys : List ℕ) → i < length xs → i < length ys → take i xs ≡ take i ys → get_or xs i 0 ≡ get_or ys i 0 → take (suc i) xs ≡ take (suc i) ys
more_alike i [] ys lt lt2 e h = absurd (omega (arith, lt))
more_alike i (x ∷ xs) [] lt lt2 e h = absurd (omega (arith, lt2))
more_alike zero (x ∷ xs) (y ∷ ys) lt lt2 e h = rw h refl
more_alike (suc i) (x ∷ xs) (y ∷ ys) lt lt2 e h = rw (heads x y (take i xs) (take i ys) e, more_alike i xs ys (omega (arith, lt)) (omega (arith, lt2)) (tails x y (take i xs) (take i ys) e) h) refl

less_alike : (i : ℕ) (xs ys : List ℕ) → i < length xs → i < length ys → take (suc i) xs ≡ take (suc i) ys → (take i xs ≡ take i ys) × (get_or xs i 0 ≡ get_or ys i 0)
less_alike i [] ys lt lt2 e = absurd (omega (arith, lt))
less_alike i (x ∷ xs) [] lt lt2 e = absurd (omega (arith, lt2))
less_alike zero (x ∷ xs) (y ∷ ys) lt lt2 e = (refl, heads x y [] [] e)
less_alike (suc i) (x ∷ xs) (y ∷ ys) lt lt2 e =
    let h = less_alike i xs ys (omega (arith, lt)) (omega (arith, lt2)) (tails x y (take (suc i) xs) (take (suc i) ys) e) in
    (rw (heads x y (take (suc i) xs) (take (suc i) ys) e, h.0) refl, h.1)

xor_same : (a b : ℕ) → a ≡ b → bit_xor a b ≡ 0
xor_same a b e = rw e (xor_self b)

pub alike_more : (differing i : ℕ) (xs ys : List ℕ) → i < length xs → i < length ys → AreAlike differing i xs ys → AreAlike (bit_or differing (bit_xor (get_or xs i 0) (get_or ys i 0))) (i + 1) xs ys
alike_more d i xs ys lt lt2 so_far =
    let x = get_or xs i 0 in
    let y = get_or ys i 0 in
    rw (add-one) (
      (λ e. let n = or_none d (bit_xor x y) e in more_alike i xs ys lt lt2 (so_far.0 n.0) (xor_none x y n.1)),
      (λ e. let h = less_alike i xs ys lt lt2 e in rw (so_far.1 h.0, xor_same x y h.1) refl),
    )
