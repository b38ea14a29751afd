-- The level of the parents, place by place, and that it has the tree hash of the level below.
use Rattle.std.proofs.Common.{◌≡◌, ℕ, zero, suc, ◌+◌, ◌*◌, ◌/◌, ◌^◌, ◌<◌, ◌≤◌, get_or, inl, inr, List, [], ◌∷◌, length, take, drop, refl, sym, ap, ◌∙◌, subst, arith, ◌++◌, length-take, length-drop}
use Rattle.std.proofs.Math.Nat.{pow-suc}
use Rattle.std.proofs.lemmas.Bool.{lt-ltb, le-ltb, cases_lt}
use Rattle.std.proofs.lemmas.List.{take_more}
use Rattle.cs_merkle.specs.Tree.{split, node_hash}
use Rattle.cs_merkle.proofs.Splits.{split_is, split_below, split_positive, is_split}
use Rattle.cs_merkle_kept.specs.Levels.{hash_over, parents, parent_at}
use Rattle.cs_merkle_kept.proofs.Hashes.{Hashes, over_more, over_one}

pub length-parents : (xs : Hashes) → length (parents xs) ≡ (length xs + 1) / 2
length-parents [] = refl
length-parents (x ∷ []) = refl
length-parents (x ∷ y ∷ xs) = omega (arith, length-parents xs)

-- the node at a place, where it is a join and where it is the last one alone
pub joined : (xs : Hashes) (j : ℕ) → 2 * j + 1 < length xs →
    parent_at xs j ≡ node_hash (get_or xs (2 * j) []) (get_or xs (2 * j + 1) [])
joined xs j there = rw (lt-ltb (2 * j + 1) (length xs) there) refl

pub alone : (xs : Hashes) (j : ℕ) → length xs ≤ 2 * j + 1 → parent_at xs j ≡ get_or xs (2 * j) []
alone xs j last = rw (le-ltb (2 * j + 1) (length xs) last) refl

one_on : (x y : List ℕ) (xs : Hashes) (j : ℕ) → parent_at (x ∷ y ∷ xs) (suc j) ≡ parent_at xs j
one_on x y xs j =
    let zs : Hashes = x ∷ y ∷ xs in
    let a : 2 * suc j ≡ suc (suc (2 * j)) = omega arith in
    let b : 2 * suc j + 1 ≡ suc (suc (2 * j + 1)) = omega arith in
    let left : get_or zs (2 * suc j) [] ≡ get_or xs (2 * j) [] = ap (λ (m : ℕ). get_or zs m []) a in
    let right : get_or zs (2 * suc j + 1) [] ≡ get_or xs (2 * j + 1) [] =
    ap (λ (m : ℕ). get_or zs m []) b in
    elim (cases_lt (2 * j + 1) (length xs)) [
      | inl there ↦
          joined zs (suc j) (omega (arith, there))
          ∙ ap (λ (h : List ℕ). node_hash h (get_or zs (2 * suc j + 1) [])) left
          ∙ ap (λ (h : List ℕ). node_hash (get_or xs (2 * j) []) h) right
          ∙ sym (joined xs j there)
      | inr last ↦
          alone zs (suc j) (omega (arith, last)) ∙ left ∙ sym (alone xs j last)
    ]

pub get-parents : (xs : Hashes) (j : ℕ) → 2 * j < length xs → get_or (parents xs) j [] ≡ parent_at xs j
get-parents [] j there = absurd (omega (arith, there))
get-parents (x ∷ []) zero there = refl
get-parents (x ∷ []) (suc j) there = absurd (omega (arith, there))
get-parents (x ∷ y ∷ xs) zero there = sym (joined (x ∷ y ∷ xs) 0 (omega arith))
get-parents (x ∷ y ∷ xs) (suc j) there =
    get-parents xs j (omega (arith, there)) ∙ sym (one_on x y xs j)

-- one node more at the end
pub extended_more : (below above : Hashes) (place : ℕ) (hash : List ℕ) → above ≡ take place (parents below) →
    hash ≡ parent_at below place → 2 * place < length below →
    above ++ hash ∷ [] ≡ take (place + 1) (parents below)
extended_more below above place hash is value there =
    ap (λ (xs : Hashes). xs ++ hash ∷ []) is
    ∙ ap (λ (h : List ℕ). take place (parents below) ++ h ∷ [])
    (value ∙ sym (get-parents below place there))
    ∙ sym (take_more (parents below) place [] (omega (arith, length-parents below, there)))

-- ---- the level of a front and of a back

twice_more : (k : ℕ) → 2 * suc k ≡ suc (suc (2 * k))
twice_more k = omega arith

take_none : (k : ℕ) → take {A = List ℕ} k [] ≡ []
take_none zero = refl
take_none (suc k) = refl

drop_none : (k : ℕ) → drop {A = List ℕ} k [] ≡ []
drop_none zero = refl
drop_none (suc k) = refl

take-parents : (k : ℕ) (xs : Hashes) → parents (take (2 * k) xs) ≡ take k (parents xs)
take-parents zero xs = refl
take-parents (suc k) [] = rw (twice_more k) refl
take-parents (suc k) (x ∷ []) =
    rw (twice_more k) (ap (λ (zs : Hashes). x ∷ zs) (sym (take_none k)))
take-parents (suc k) (x ∷ y ∷ xs) =
    rw (twice_more k) (ap (λ (zs : Hashes). node_hash x y ∷ zs) (take-parents k xs))

drop-parents : (k : ℕ) (xs : Hashes) → parents (drop (2 * k) xs) ≡ drop k (parents xs)
drop-parents zero xs = refl
drop-parents (suc k) [] = rw (twice_more k) refl
drop-parents (suc k) (x ∷ []) = rw (twice_more k) (sym (drop_none k))
drop-parents (suc k) (x ∷ y ∷ xs) = rw (twice_more k) (drop-parents k xs)

-- ---- the tree hash

-- three leaves or more are split at twice the place at which their parents are
by_power : (n e : ℕ) → 2 < n → split n ≡ 2 ^ e → split n < n → n ≤ 2 * split n →
    split n ≡ 2 * split ((n + 1) / 2)
by_power n zero many power smaller largest = absurd (omega (arith, many, power, largest))
by_power n (suc e) many power smaller largest =
    let double = pow-suc 2 e in
    let half : 2 ^ e ≡ split ((n + 1) / 2) =
    is_split ((n + 1) / 2) (2 ^ e) (record {
      power = (e, refl);
      smaller = omega (arith, power, smaller, double);
      largest = omega (arith, power, largest, double);
    }) in
    omega (arith, power, double, half)

twice_split : (n : ℕ) → 2 < n → split n ≡ 2 * split ((n + 1) / 2)
twice_split n many =
    let is = split_is n (omega (arith, many)) in
    let (e, power) = is.power in
    by_power n e many power is.smaller is.largest

over_in : (d : ℕ) (xs : Hashes) → length xs ≤ d → hash_over (parents xs) ≡ hash_over xs
over_in d [] few = refl
over_in d (x ∷ []) few = refl
over_in d (x ∷ y ∷ []) few =
    let one : split 2 ≡ 1 =
    sym (is_split 2 1 (record { power = (0, refl); smaller = omega arith; largest = omega arith })) in
    over_one (node_hash x y)
    ∙ sym (over_more (x ∷ y ∷ []) (omega arith)
    ∙ rw (one, over_one x, over_one y) refl)
over_in zero (x ∷ y ∷ z ∷ more) few = absurd (omega (arith, few))
over_in (suc d) (x ∷ y ∷ z ∷ more) few =
    let xs : Hashes = x ∷ y ∷ z ∷ more in
    let n = length xs in
    let ps = parents xs in
    let long : length ps ≡ (n + 1) / 2 = length-parents xs in
    let k = split (length ps) in
    let twice : split n ≡ 2 * k = twice_split n (omega arith) ∙ ap (λ (m : ℕ). 2 * split m) (sym long) in
    let below = split_below n (omega arith) in
    let positive = split_positive n (omega arith) in
    let left = over_in d (take (2 * k) xs)
    (omega (arith, length-take (2 * k) xs, twice, below, few)) in
    let right = over_in d (drop (2 * k) xs)
    (omega (arith, length-drop (2 * k) xs, twice, positive, few)) in
    let whole : hash_over xs
    ≡ node_hash (hash_over (take (2 * k) xs)) (hash_over (drop (2 * k) xs)) =
    subst (λ (m : ℕ). hash_over xs ≡ node_hash (hash_over (take m xs)) (hash_over (drop m xs)))
    twice (over_more xs (omega arith)) in
    let one : hash_over (take k ps) ≡ hash_over (take (2 * k) xs) =
    ap hash_over (sym (take-parents k xs)) ∙ left in
    let two : hash_over (drop k ps) ≡ hash_over (drop (2 * k) xs) =
    ap hash_over (sym (drop-parents k xs)) ∙ right in
    over_more ps (omega (arith, long))
    ∙ ap (λ (h : List ℕ). node_hash h (hash_over (drop k ps))) one
    ∙ ap (λ (h : List ℕ). node_hash (hash_over (take (2 * k) xs)) h) two
    ∙ sym whole

pub over-parents : (xs : Hashes) → hash_over (parents xs) ≡ hash_over xs
over-parents xs = over_in (length xs) xs (omega arith)
