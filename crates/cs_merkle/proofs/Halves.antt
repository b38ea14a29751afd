-- Trees and paths over vectors, as the code splits them: at k, into these two.
use Rattle.std.proofs.Common.{◌≡◌, ℕ, zero, suc, ◌-◌, ◌<◌, ◌≤◌, List, [], ◌∷◌, ◌++◌, length, get_or, take, drop, refl, ap, sym, ◌∙◌, arith, append_assoc}
use Rattle.std.specs.Prelude.{Vec}
use Rattle.sha2.specs.Sha256.{sha256}
use Rattle.cs_merkle.specs.Tree.{split, leaf_hash, node_hash, merkle_tree_hash, leaves_of_vectors}
use Rattle.cs_merkle.specs.Path.{audit_path}
use Rattle.cs_merkle.proofs.Trees.{hash_of_none, hash_of_one, hash_of_more, path_of_one, path_on_the_left, path_on_the_right}

front_leaves : {Z : Type 0} (k : ℕ) (vectors : List (Vec ℕ Z)) →
    leaves_of_vectors (take k vectors) ≡ take k (leaves_of_vectors vectors)
front_leaves zero vectors = refl
front_leaves (suc k) [] = refl
front_leaves (suc k) (vector ∷ vectors) =
    ap (λ (rest : List (List ℕ)). vector.items ∷ rest) (front_leaves k vectors)

back_leaves : {Z : Type 0} (k : ℕ) (vectors : List (Vec ℕ Z)) →
    leaves_of_vectors (drop k vectors) ≡ drop k (leaves_of_vectors vectors)
back_leaves zero vectors = refl
back_leaves (suc k) [] = refl
back_leaves (suc k) (vector ∷ vectors) = back_leaves k vectors

so_many : {Z : Type 0} (vectors : List (Vec ℕ Z)) → length (leaves_of_vectors vectors) ≡ length vectors
so_many [] = refl
so_many (vector ∷ vectors) = ap suc (so_many vectors)

-- the vectors hold two leaves or more, and these hold the halves
record AreHalves {Z : Type 0} (vectors front back : List (Vec ℕ Z)) (k : ℕ) : Type 0 where
  some : 1 < length (leaves_of_vectors vectors)
  at : k ≡ split (length (leaves_of_vectors vectors))
  left : leaves_of_vectors front ≡ take k (leaves_of_vectors vectors)
  right : leaves_of_vectors back ≡ drop k (leaves_of_vectors vectors)

halves : {Z : Type 0} (vectors front back : List (Vec ℕ Z)) (k : ℕ) → 1 < length vectors →
    k ≡ split (length vectors) → front ≡ take k vectors → back ≡ drop k vectors →
    AreHalves vectors front back k
halves vectors front back k some at front_is back_is = record {
  some = omega (arith, some, so_many vectors);
  at = at ∙ ap split (sym (so_many vectors));
  left = ap leaves_of_vectors front_is ∙ front_leaves k vectors;
  right = ap leaves_of_vectors back_is ∙ back_leaves k vectors;
}

-- ---- roots

pub root_of_none : {Z : Type 0} (vectors : List (Vec ℕ Z)) → length vectors < 1 →
    sha256 [] ≡ merkle_tree_hash (leaves_of_vectors vectors)
root_of_none [] none = sym hash_of_none
root_of_none (vector ∷ vectors) none = absurd (omega (arith, none))

pub root_of_one : {Z : Type 0} (vectors : List (Vec ℕ Z)) (vector : Vec ℕ Z) →
    1 ≤ length vectors → length vectors < 2 → vector ≡ get_or vectors 0 vector →
    leaf_hash vector.items ≡ merkle_tree_hash (leaves_of_vectors vectors)
root_of_one [] vector some few is = absurd (omega (arith, some))
root_of_one (first ∷ []) vector some few is =
    ap (λ (v : Vec ℕ _). leaf_hash v.items) is ∙ sym (hash_of_one first.items)
root_of_one (first ∷ next ∷ more) vector some few is = absurd (omega (arith, few))

pub root_of_halves : {Z : Type 0} (vectors front back : List (Vec ℕ Z)) (k : ℕ) →
    1 < length vectors → k ≡ split (length vectors) → front ≡ take k vectors →
    back ≡ drop k vectors →
    node_hash (merkle_tree_hash (leaves_of_vectors front)) (merkle_tree_hash (leaves_of_vectors back))
    ≡ merkle_tree_hash (leaves_of_vectors vectors)
root_of_halves vectors front back k some at front_is back_is =
    let are = halves vectors front back k some at front_is back_is in
    rw (are.left, are.right, are.at) (sym (hash_of_more (leaves_of_vectors vectors) are.some))

-- ---- paths behind what is there before

pub path_of_none : {Z : Type 0} (vectors : List (Vec ℕ Z)) (place : ℕ) → length vectors ≡ 1 →
    audit_path (leaves_of_vectors vectors) place ≡ []
path_of_none [] place one = absurd (omega (arith, one))
path_of_none (vector ∷ []) place one = path_of_one vector.items place
path_of_none (first ∷ next ∷ more) place one = absurd (omega (arith, one))

pub path_by_left : {Z : Type 0} (vectors front back : List (Vec ℕ Z)) (k place : ℕ)
    (before : List (List ℕ)) → 1 < length vectors → k ≡ split (length vectors) →
    front ≡ take k vectors → back ≡ drop k vectors → place < k →
    (before ++ audit_path (leaves_of_vectors front) place) ++ merkle_tree_hash (leaves_of_vectors back) ∷ []
    ≡ before ++ audit_path (leaves_of_vectors vectors) place
path_by_left vectors front back k place before some at front_is back_is left =
    let are = halves vectors front back k some at front_is back_is in
    let path = path_on_the_left (leaves_of_vectors vectors) place are.some (rw (← are.at) left) in
    append_assoc before (audit_path (leaves_of_vectors front) place)
    (merkle_tree_hash (leaves_of_vectors back) ∷ [])
    ∙ ap (λ (hashes : List (List ℕ)). before ++ hashes)
    (rw (are.left, are.right, are.at) (sym path))

pub path_by_right : {Z : Type 0} (vectors front back : List (Vec ℕ Z)) (k place : ℕ)
    (before : List (List ℕ)) → 1 < length vectors → k ≡ split (length vectors) →
    front ≡ take k vectors → back ≡ drop k vectors → k ≤ place →
    (before ++ audit_path (leaves_of_vectors back) (place - k)) ++ merkle_tree_hash (leaves_of_vectors front) ∷ []
    ≡ before ++ audit_path (leaves_of_vectors vectors) place
path_by_right vectors front back k place before some at front_is back_is right =
    let are = halves vectors front back k some at front_is back_is in
    let path = path_on_the_right (leaves_of_vectors vectors) place are.some (rw (← are.at) right) in
    append_assoc before (audit_path (leaves_of_vectors back) (place - k))
    (merkle_tree_hash (leaves_of_vectors front) ∷ [])
    ∙ ap (λ (hashes : List (List ℕ)). before ++ hashes)
    (rw (are.left, are.right, are.at) (sym path))
