-- How many levels there are.
use Rattle.std.proofs.Common.{◌≡◌, ℕ, zero, suc, ◌+◌, ◌-◌, ◌*◌, ◌/◌, ◌^◌, ◌<◌, ◌≤◌, List, [], ◌∷◌, ◌++◌, replicate, ap, ◌∙◌, arith}
use Rattle.std.proofs.Math.Nat.{pow-suc}
use Rattle.std.proofs.Math.Pow.{pow_mono}
use Rattle.std.proofs.lemmas.List.{append_assoc, replicate_more}
use Rattle.cs_merkle.proofs.Splits.{split_is}
use Rattle.cs_merkle_kept.specs.Levels.{IsHeight}

-- more leaves have no fewer levels
pub higher : (a b m n : ℕ) → IsHeight m a → IsHeight n b → m ≤ n → a ≤ b
higher zero b m n low high few = omega arith
higher (suc a) zero m n low high few = absurd (omega (arith, low.0, high, few))
higher (suc a) (suc b) m n low high few =
    let below = higher a b ((m + 1) / 2) ((n + 1) / 2) low.1 high.1 (omega (arith, few)) in
    omega (arith, below)

-- it is the least height under which so many leaves fit
pub least : (height n h : ℕ) → IsHeight n height → n ≤ 2 ^ h → height ≤ h
least zero n h is fits = omega arith
least (suc height) n zero is fits = absurd (omega (arith, is.0, fits))
least (suc height) n (suc h) is fits =
    let below = least height ((n + 1) / 2) h is.1 (omega (arith, fits, pow-suc 2 h)) in
    omega (arith, below)

-- the powers of two that are too small for two leaves or more
pub least_height : (n s : ℕ) → 1 < n → ((h : ℕ) → n ≤ 2 ^ h → s ≤ h) → 2 ^ s ≤ 2 * (n - 1)
least_height n s some bound =
    let is = split_is n some in
    let (j, power) = is.power in
    let largest = is.largest in
    let smaller = is.smaller in
    let low = bound (suc j) (omega (arith, pow-suc 2 j, power, largest)) in
    let mono : 2 ^ s ≤ 2 ^ suc j = pow_mono low in
    omega (arith, mono, pow-suc 2 j, power, smaller)

-- a level more, without nodes
pub grown_more : (old now : List (List (List ℕ))) (k : ℕ) → now ≡ old ++ replicate k [] →
    now ++ [] ∷ [] ≡ old ++ replicate (k + 1) []
grown_more old now k is =
    ap (λ (ls : List (List (List ℕ))). ls ++ [] ∷ []) is
    ∙ append_assoc old (replicate k []) ([] ∷ [])
    ∙ ap (λ (ls : List (List (List ℕ))). old ++ ls) (replicate_more k [])
