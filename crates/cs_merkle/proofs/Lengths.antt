-- How long paths are.
use Rattle.std.proofs.Common.{◌≡◌, ℕ, zero, suc, ◌+◌, ◌-◌, ◌<◌, ◌≤◌, nat_lt, if◌then◌else◌, List, [], ◌∷◌, length, refl, ap, sym, ◌∙◌, inl, inr, arith}
use Rattle.std.proofs.lemmas.Bool.{lt-ltb, le-ltb, cases_lt}
use Rattle.std.proofs.lemmas.List.{length_push}
use Rattle.cs_merkle.specs.Tree.{split, merkle_tree_hash}
use Rattle.cs_merkle.specs.Path.{audit_path, path_length_in, path_length}
use Rattle.cs_merkle.proofs.Splits.{split_positive, split_below}
use Rattle.cs_merkle.proofs.Trees.{middle, front, back, length_front, length_back, halves_shorter, path_on_the_left, path_on_the_right, path_of_one}

-- any height serves that is no less than the number of leaves
length_enough : (d e n place : ℕ) → n ≤ d → n ≤ e → path_length_in d n place ≡ path_length_in e n place
length_enough zero zero n place l m = refl
length_enough zero (suc e) zero place l m = refl
length_enough zero (suc e) (suc n) place l m = absurd (omega (arith, l))
length_enough (suc d) zero zero place l m = refl
length_enough (suc d) zero (suc n) place l m = absurd (omega (arith, m))
length_enough (suc d) (suc e) zero place l m = refl
length_enough (suc d) (suc e) (suc zero) place l m = refl
length_enough (suc d) (suc e) (suc (suc more)) place l m =
    let n = suc (suc more) in
    let k = split n in
    let below : k < n = split_below n (omega arith) in
    let positive : 0 < k = split_positive n (omega arith) in
    let left = length_enough d e k place (omega (arith, below, l)) (omega (arith, below, m)) in
    let right = length_enough d e (n - k) (place - k)
    (omega (arith, positive, l)) (omega (arith, positive, m)) in
    rw (left, right) refl

length_of_more : (n place : ℕ) → 1 < n → path_length n place ≡
    (if nat_lt place (split n) then path_length (split n) place + 1
    else path_length (n - split n) (place - split n) + 1)
unfolding path_length
length_of_more zero place some = absurd (omega (arith, some))
length_of_more (suc zero) place some = absurd (omega (arith, some))
length_of_more (suc (suc more)) place some =
    let n = suc (suc more) in
    let k = split n in
    let below : k < n = split_below n some in
    let positive : 0 < k = split_positive n some in
    let left = length_enough (suc more) k k place (omega (arith, below)) (omega arith) in
    let right = length_enough (suc more) (n - k) (n - k) (place - k)
    (omega (arith, positive)) (omega arith) in
    rw (left, right) refl

pub length_on_the_left : (n place : ℕ) → 1 < n → place < split n →
    path_length n place ≡ path_length (split n) place + 1
length_on_the_left n place some left =
    length_of_more n place some ∙ rw (lt-ltb place (split n) left) refl

pub length_on_the_right : (n place : ℕ) → 1 < n → split n ≤ place →
    path_length n place ≡ path_length (n - split n) (place - split n) + 1
length_on_the_right n place some right =
    length_of_more n place some ∙ rw (le-ltb place (split n) right) refl

pub length_of_few : (n place : ℕ) → n ≤ 1 → path_length n place ≡ 0
unfolding path_length
length_of_few zero place few = refl
length_of_few (suc zero) place few = refl
length_of_few (suc (suc more)) place few = absurd (omega (arith, few))

-- ---- the audit path is as long

long_in : (d : ℕ) (leaves : List (List ℕ)) (place : ℕ) → length leaves ≤ d →
    place < length leaves → length (audit_path leaves place) ≡ path_length (length leaves) place
long_in d [] place few within = absurd (omega (arith, within))
long_in d (leaf ∷ []) place few within =
    ap length (path_of_one leaf place) ∙ sym (length_of_few 1 place (omega arith))
long_in zero (leaf ∷ next ∷ more) place few within = absurd (omega (arith, few))
long_in (suc d) (leaf ∷ next ∷ more) place few within =
    let leaves : List (List ℕ) = leaf ∷ next ∷ more in
    let n = length leaves in
    let k = middle leaves in
    let some : 1 < n = omega arith in
    let (less_front, less_back) = halves_shorter leaves some in
    let front_is = length_front leaves some in
    let back_is = length_back leaves in
    elim (cases_lt place k) [
      | inl left ↦
          let so_far = long_in d (front leaves) place
          (omega (arith, less_front, few)) (omega (arith, left, front_is)) in
          ap length (path_on_the_left leaves place some left)
          ∙ length_push (audit_path (front leaves) place) (merkle_tree_hash (back leaves))
          ∙ ap (λ (m : ℕ). m + 1) (so_far ∙ ap (λ (m : ℕ). path_length m place) front_is)
          ∙ sym (length_on_the_left n place some left)
      | inr right ↦
          let so_far = long_in d (back leaves) (place - k)
          (omega (arith, less_back, few))
          (omega (arith, within, right, back_is, split_below n some)) in
          ap length (path_on_the_right leaves place some right)
          ∙ length_push (audit_path (back leaves) (place - k)) (merkle_tree_hash (front leaves))
          ∙ ap (λ (m : ℕ). m + 1) (so_far ∙ ap (λ (m : ℕ). path_length m (place - k)) back_is)
          ∙ sym (length_on_the_right n place some right)
    ]

pub path_is_long : (leaves : List (List ℕ)) (place : ℕ) → place < length leaves →
    length (audit_path leaves place) ≡ path_length (length leaves) place
path_is_long leaves place within = long_in (length leaves) leaves place (omega arith) within

-- ---- as the code goes, at k

pub length_by_left : (n k place l : ℕ) → 1 < n → k ≡ split n → place < k →
    l ≡ path_length k place → l + 1 ≡ path_length n place
length_by_left n k place l some k_is left l_is =
    rw (l_is, k_is) (sym (length_on_the_left n place some (rw (← k_is) left)))

pub length_by_right : (n k place l : ℕ) → 1 < n → k ≡ split n → k ≤ place →
    l ≡ path_length (n - k) (place - k) → l + 1 ≡ path_length n place
length_by_right n k place l some k_is right l_is =
    rw (l_is, k_is) (sym (length_on_the_right n place some (rw (← k_is) right)))

-- where a path isn't empty there are two leaves or more
pub two_leaves : (n place l : ℕ) → l ≡ path_length n place → 0 < l → 1 < n
two_leaves n place l long some =
    elim (cases_lt 1 n) [
      | inl two ↦ two
      | inr few ↦ absurd (omega (arith, some, long, length_of_few n place few))
    ]

pub less_by_left : (n k place l : ℕ) → 1 < n → k ≡ split n → place < k →
    l + 1 ≡ path_length n place → l ≡ path_length k place
less_by_left n k place l some k_is left long =
    rw k_is (omega (arith, long, length_on_the_left n place some (rw (← k_is) left)))

pub less_by_right : (n k place l : ℕ) → 1 < n → k ≡ split n → k ≤ place →
    l + 1 ≡ path_length n place → l ≡ path_length (n - k) (place - k)
less_by_right n k place l some k_is right long =
    rw k_is (omega (arith, long, length_on_the_right n place some (rw (← k_is) right)))
