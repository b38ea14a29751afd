-- A tree of two leaves or more has two halves, and its hash and paths are those of its halves.
use Rattle.std.proofs.Common.{◌≡◌, ℕ, zero, suc, ◌-◌, ◌<◌, ◌≤◌, nat_lt, if◌then◌else◌, List, [], ◌∷◌, ◌++◌, length, take, drop, refl, ap, ◌∙◌, arith, length-take, length-drop}
use Rattle.std.proofs.lemmas.Bool.{lt-ltb, le-ltb}
use Rattle.sha2.specs.Sha256.{sha256}
use Rattle.cs_merkle.specs.Tree.{Node, split, grown, tree_of, hash, leaf_hash, node_hash, merkle_tree_hash}
use Rattle.cs_merkle.specs.Path.{size, audit_path}
use Rattle.cs_merkle.proofs.Splits.{split_positive, split_below}

-- where leaves are split, and the two halves
abbrev pub middle : List (List ℕ) → ℕ
middle leaves = split (length leaves)

abbrev pub front : List (List ℕ) → List (List ℕ)
front leaves = take (middle leaves) leaves

abbrev pub back : List (List ℕ) → List (List ℕ)
back leaves = drop (middle leaves) leaves

pub length_front : (leaves : List (List ℕ)) → 1 < length leaves →
    length (front leaves) ≡ middle leaves
length_front leaves some =
    omega (arith, length-take (middle leaves) leaves, split_below (length leaves) some)

pub length_back : (leaves : List (List ℕ)) →
    length (back leaves) ≡ length leaves - middle leaves
length_back leaves = length-drop (middle leaves) leaves

pub halves_shorter : (leaves : List (List ℕ)) → 1 < length leaves →
    (length (front leaves) < length leaves) × (length (back leaves) < length leaves)
halves_shorter leaves some =
    let below = split_below (length leaves) some in
    let positive = split_positive (length leaves) some in
    (omega (arith, length_front leaves some), omega (arith, length_back leaves))

-- any height serves that is no less than the number of leaves
grown_enough : (d e : ℕ) (leaves : List (List ℕ)) → length leaves ≤ d → length leaves ≤ e →
    grown d leaves ≡ grown e leaves
grown_enough zero zero leaves l m = refl
grown_enough zero (suc e) [] l m = refl
grown_enough zero (suc e) (leaf ∷ more) l m = absurd (omega (arith, l))
grown_enough (suc d) zero [] l m = refl
grown_enough (suc d) zero (leaf ∷ more) l m = absurd (omega (arith, m))
grown_enough (suc d) (suc e) [] l m = refl
grown_enough (suc d) (suc e) (leaf ∷ []) l m = refl
grown_enough (suc d) (suc e) (leaf ∷ next ∷ more) l m =
    let leaves : List (List ℕ) = leaf ∷ next ∷ more in
    let (less_front, less_back) = halves_shorter leaves (omega arith) in
    let left = grown_enough d e (front leaves)
    (omega (arith, less_front)) (omega (arith, less_front)) in
    let right = grown_enough d e (back leaves)
    (omega (arith, less_back)) (omega (arith, less_back)) in
    rw (left, right) refl

pub tree_of_more : (leaves : List (List ℕ)) → 1 < length leaves →
    tree_of leaves ≡ Node (tree_of (front leaves)) (tree_of (back leaves))
unfolding tree_of
tree_of_more [] some = absurd (omega (arith, some))
tree_of_more (leaf ∷ []) some = absurd (omega (arith, some))
tree_of_more (leaf ∷ next ∷ more) some =
    let leaves : List (List ℕ) = leaf ∷ next ∷ more in
    let d = suc (length more) in
    let (less_front, less_back) = halves_shorter leaves some in
    let left = grown_enough d (length (front leaves)) (front leaves)
    (omega (arith, less_front)) (omega arith) in
    let right = grown_enough d (length (back leaves)) (back leaves)
    (omega (arith, less_back)) (omega arith) in
    rw (left, right) refl

pub hash_of_more : (leaves : List (List ℕ)) → 1 < length leaves → merkle_tree_hash leaves ≡
    node_hash (merkle_tree_hash (front leaves)) (merkle_tree_hash (back leaves))
unfolding merkle_tree_hash
hash_of_more leaves some = ap hash (tree_of_more leaves some)

size_in : (d : ℕ) (leaves : List (List ℕ)) → length leaves ≤ d →
    size (tree_of leaves) ≡ length leaves
unfolding tree_of
size_in d [] few = refl
size_in d (leaf ∷ []) few = refl
size_in zero (leaf ∷ next ∷ more) few = absurd (omega (arith, few))
size_in (suc d) (leaf ∷ next ∷ more) few =
    let leaves : List (List ℕ) = leaf ∷ next ∷ more in
    let some : 1 < length leaves = omega arith in
    let (less_front, less_back) = halves_shorter leaves some in
    let left = size_in d (front leaves) (omega (arith, less_front, few)) in
    let right = size_in d (back leaves) (omega (arith, less_back, few)) in
    let sum = split_below (length leaves) some in
    ap size (tree_of_more leaves some)
    ∙ omega (arith, left, right, length_front leaves some, length_back leaves, sum)

size_of : (leaves : List (List ℕ)) → size (tree_of leaves) ≡ length leaves
size_of leaves = size_in (length leaves) leaves (omega arith)

path_of_more : (leaves : List (List ℕ)) (place : ℕ) → 1 < length leaves →
    audit_path leaves place ≡ (if nat_lt place (middle leaves)
    then audit_path (front leaves) place ++ merkle_tree_hash (back leaves) ∷ []
    else audit_path (back leaves) (place - middle leaves) ++ merkle_tree_hash (front leaves) ∷ [])
unfolding audit_path merkle_tree_hash
path_of_more leaves place some =
    let size_front = size_of (front leaves) ∙ length_front leaves some in
    rw (tree_of_more leaves some, size_front) refl

pub path_on_the_left : (leaves : List (List ℕ)) (place : ℕ) → 1 < length leaves →
    place < middle leaves →
    audit_path leaves place ≡ audit_path (front leaves) place ++ merkle_tree_hash (back leaves) ∷ []
path_on_the_left leaves place some left =
    path_of_more leaves place some ∙ rw (lt-ltb place (middle leaves) left) refl

pub path_on_the_right : (leaves : List (List ℕ)) (place : ℕ) → 1 < length leaves →
    middle leaves ≤ place →
    audit_path leaves place
    ≡ audit_path (back leaves) (place - middle leaves) ++ merkle_tree_hash (front leaves) ∷ []
path_on_the_right leaves place some right =
    path_of_more leaves place some ∙ rw (le-ltb place (middle leaves) right) refl

-- ---- one leaf, or none

pub hash_of_none : merkle_tree_hash [] ≡ sha256 []
unfolding merkle_tree_hash tree_of
hash_of_none = refl

pub hash_of_one : (leaf : List ℕ) → merkle_tree_hash (leaf ∷ []) ≡ leaf_hash leaf
unfolding merkle_tree_hash tree_of
hash_of_one leaf = refl

pub path_of_one : (leaf : List ℕ) (place : ℕ) → audit_path (leaf ∷ []) place ≡ []
unfolding audit_path tree_of
path_of_one leaf place = refl
