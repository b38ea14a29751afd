-- The tree hash over hashes: of two halves, and over the hashes of leaves.
use Rattle.std.proofs.Common.{◌≡◌, ℕ, zero, suc, ◌<◌, ◌≤◌, List, [], ◌∷◌, length, map, take, drop, refl, sym, ◌∙◌, subst, arith, length-take, length-drop}
use Rattle.std.proofs.lemmas.List.{length-map, take-map, drop-map}
use Rattle.sha2.specs.Sha256.{sha256}
use Rattle.cs_merkle.specs.Tree.{split, node_hash, leaf_hash, merkle_tree_hash}
use Rattle.cs_merkle.proofs.Splits.{split_below, split_positive}
use Rattle.cs_merkle.proofs.Trees.{middle, front, back, halves_shorter, hash_of_none, hash_of_one, hash_of_more}
use Rattle.cs_merkle_kept.specs.Levels.{hash_in, hash_over}

abbrev pub Hashes : Type 0
Hashes = List (List ℕ)

hash_enough : (d e : ℕ) (hashes : Hashes) → length hashes ≤ d → length hashes ≤ e →
    hash_in d hashes ≡ hash_in e hashes
hash_enough zero zero hashes l m = refl
hash_enough zero (suc e) [] l m = refl
hash_enough zero (suc e) (hash ∷ more) l m = absurd (omega (arith, l))
hash_enough (suc d) zero [] l m = refl
hash_enough (suc d) zero (hash ∷ more) l m = absurd (omega (arith, m))
hash_enough (suc d) (suc e) [] l m = refl
hash_enough (suc d) (suc e) (hash ∷ []) l m = refl
hash_enough (suc d) (suc e) (hash ∷ next ∷ more) l m =
    let hashes : Hashes = hash ∷ next ∷ more in
    let k = split (length hashes) in
    let below = split_below (length hashes) (omega arith) in
    let positive = split_positive (length hashes) (omega arith) in
    let left = hash_enough d e (take k hashes)
    (omega (arith, length-take k hashes, below, l)) (omega (arith, length-take k hashes, below, m)) in
    let right = hash_enough d e (drop k hashes)
    (omega (arith, length-drop k hashes, positive, l))
    (omega (arith, length-drop k hashes, positive, m)) in
    rw (left, right) refl

pub over_more : (hashes : Hashes) → 1 < length hashes →
    let k = split (length hashes) in
    hash_over hashes ≡ node_hash (hash_over (take k hashes)) (hash_over (drop k hashes))
unfolding hash_over
over_more [] some = absurd (omega (arith, some))
over_more (hash ∷ []) some = absurd (omega (arith, some))
over_more (hash ∷ next ∷ more) some =
    let hashes : Hashes = hash ∷ next ∷ more in
    let k = split (length hashes) in
    let d = suc (length more) in
    let below = split_below (length hashes) some in
    let positive = split_positive (length hashes) some in
    let left = hash_enough d (length (take k hashes)) (take k hashes)
    (omega (arith, length-take k hashes, below)) (omega arith) in
    let right = hash_enough d (length (drop k hashes)) (drop k hashes)
    (omega (arith, length-drop k hashes, positive)) (omega arith) in
    rw (left, right) refl

pub over_none : hash_over [] ≡ sha256 []
unfolding hash_over
over_none = refl

pub over_one : (hash : List ℕ) → hash_over (hash ∷ []) ≡ hash
unfolding hash_over
over_one hash = refl

of_in : (d : ℕ) (leaves : List (List ℕ)) → length leaves ≤ d →
    hash_over (map leaf_hash leaves) ≡ merkle_tree_hash leaves
of_in d [] few = over_none ∙ sym hash_of_none
of_in d (leaf ∷ []) few = over_one (leaf_hash leaf) ∙ sym (hash_of_one leaf)
of_in zero (leaf ∷ next ∷ more) few = absurd (omega (arith, few))
of_in (suc d) (leaf ∷ next ∷ more) few =
    let leaves : List (List ℕ) = leaf ∷ next ∷ more in
    let some : 1 < length leaves = omega arith in
    let (less_front, less_back) = halves_shorter leaves some in
    let hashes : Hashes = map leaf_hash leaves in
    let long : length hashes ≡ length leaves = length-map leaves leaf_hash in
    let left = of_in d (front leaves) (omega (arith, less_front, few)) in
    let right = of_in d (back leaves) (omega (arith, less_back, few)) in
    let k = middle leaves in
    let whole : hash_over hashes ≡ node_hash (hash_over (take k hashes)) (hash_over (drop k hashes)) =
    subst (λ (m : ℕ). hash_over hashes
    ≡ node_hash (hash_over (take (split m) hashes)) (hash_over (drop (split m) hashes)))
    long (over_more hashes (omega (arith, long, some))) in
    whole
    ∙ rw (take-map leaf_hash k leaves, drop-map leaf_hash k leaves, left, right)
    (sym (hash_of_more leaves some))

-- over the hashes of leaves it is their tree hash
pub over_leaves : (leaves : List (List ℕ)) →
    hash_over (map leaf_hash leaves) ≡ merkle_tree_hash leaves
over_leaves leaves = of_in (length leaves) leaves (omega arith)
