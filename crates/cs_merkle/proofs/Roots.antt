-- The audit path of a leaf leads to the root.
use Rattle.std.proofs.Common.{◌≡◌, ℕ, zero, suc, ◌-◌, ◌<◌, ◌≤◌, List, [], ◌∷◌, ◌++◌, length, take, drop, reverse, Some, refl, ap, sym, ◌∙◌, inl, inr, arith}
use Rattle.std.specs.Prelude.{slice_get}
use Rattle.std.proofs.lemmas.Bool.{lt-ltb, le-ltb, cases_lt}
use Rattle.std.proofs.lemmas.List.{reverse-append}
use Rattle.std.proofs.lemmas.Option.{slice_get_within}
use Rattle.cs_merkle.specs.Tree.{split, leaf_hash, node_hash, merkle_tree_hash}
use Rattle.cs_merkle.specs.Path.{audit_path, root_by, ShowsLeaf}
use Rattle.cs_merkle.proofs.Trees.{middle, front, back, length_front, length_back, halves_shorter, hash_of_one, hash_of_more, path_of_one, path_on_the_left, path_on_the_right}
use Rattle.cs_merkle.proofs.Lengths.{path_is_long}

pub root_on_the_left : (n place : ℕ) (leaf beside : List ℕ) (below : List (List ℕ)) →
    place < split n →
    root_by n place leaf (beside ∷ below) ≡ node_hash (root_by (split n) place leaf below) beside
root_on_the_left n place leaf beside below left = rw (lt-ltb place (split n) left) refl

pub root_on_the_right : (n place : ℕ) (leaf beside : List ℕ) (below : List (List ℕ)) →
    split n ≤ place → root_by n place leaf (beside ∷ below) ≡
    node_hash beside (root_by (n - split n) (place - split n) leaf below)
root_on_the_right n place leaf beside below right = rw (le-ltb place (split n) right) refl

pub reverse_last : (below : List (List ℕ)) (beside : List ℕ) →
    reverse (below ++ beside ∷ []) ≡ beside ∷ reverse below
reverse_last below beside = reverse-append below (beside ∷ [])

in_front : (k place : ℕ) (leaves : List (List ℕ)) → place < k →
    slice_get (take k leaves) place ≡ slice_get leaves place
in_front zero place leaves less = absurd (omega (arith, less))
in_front (suc k) place [] less = refl
in_front (suc k) zero (leaf ∷ leaves) less = refl
in_front (suc k) (suc place) (leaf ∷ leaves) less = in_front k place leaves (omega (arith, less))

in_back : (k place : ℕ) (leaves : List (List ℕ)) → k ≤ place →
    slice_get (drop k leaves) (place - k) ≡ slice_get leaves place
in_back zero place leaves more = let same : place - 0 ≡ place = omega arith in rw same refl
in_back (suc k) place [] more = refl
in_back (suc k) zero (leaf ∷ leaves) more = absurd (omega (arith, more))
in_back (suc k) (suc place) (leaf ∷ leaves) more =
    let same : suc place - suc k ≡ place - k = omega arith in
    rw same (in_back k place leaves (omega (arith, more)))

pub leaf_in_front : (leaves : List (List ℕ)) (place : ℕ) → place < middle leaves →
    slice_get (front leaves) place ≡ slice_get leaves place
leaf_in_front leaves place left = in_front (middle leaves) place leaves left

pub leaf_in_back : (leaves : List (List ℕ)) (place : ℕ) → middle leaves ≤ place →
    slice_get (back leaves) (place - middle leaves) ≡ slice_get leaves place
leaf_in_back leaves place right = in_back (middle leaves) place leaves right

leads_in : (d : ℕ) (leaves : List (List ℕ)) (place : ℕ) (leaf : List ℕ) → length leaves ≤ d →
    slice_get leaves place ≡ Some leaf →
    root_by (length leaves) place leaf (reverse (audit_path leaves place)) ≡ merkle_tree_hash leaves
leads_in d [] place leaf few is = absurd (cc)
leads_in d (only ∷ []) zero leaf few is =
    let same : only ≡ leaf = cc in
    ap (λ path. root_by 1 0 leaf (reverse path)) (path_of_one only 0)
    ∙ ap leaf_hash (sym same)
    ∙ sym (hash_of_one only)
leads_in d (only ∷ []) (suc place) leaf few is = absurd (cc)
leads_in zero (first ∷ next ∷ more) place leaf few is = absurd (omega (arith, few))
leads_in (suc d) (first ∷ next ∷ more) place leaf few is =
    let leaves : List (List ℕ) = first ∷ next ∷ more in
    let n = length leaves in
    let k = middle leaves in
    let some : 1 < n = omega arith in
    let (less_front, less_back) = halves_shorter leaves some in
    elim (cases_lt place k) [
      | inl left ↦
          let beside = merkle_tree_hash (back leaves) in
          let below = audit_path (front leaves) place in
          let so_far = leads_in d (front leaves) place leaf (omega (arith, less_front, few))
          (leaf_in_front leaves place left ∙ is) in
          ap (λ path. root_by n place leaf (reverse path))
          (path_on_the_left leaves place some left)
          ∙ ap (root_by n place leaf) (reverse_last below beside)
          ∙ root_on_the_left n place leaf beside (reverse below) left
          ∙ ap (λ (m : ℕ). node_hash (root_by m place leaf (reverse below)) beside)
          (sym (length_front leaves some))
          ∙ ap (λ (root : List ℕ). node_hash root beside) so_far
          ∙ sym (hash_of_more leaves some)
      | inr right ↦
          let beside = merkle_tree_hash (front leaves) in
          let below = audit_path (back leaves) (place - k) in
          let so_far = leads_in d (back leaves) (place - k) leaf (omega (arith, less_back, few))
          (leaf_in_back leaves place right ∙ is) in
          ap (λ path. root_by n place leaf (reverse path))
          (path_on_the_right leaves place some right)
          ∙ ap (root_by n place leaf) (reverse_last below beside)
          ∙ root_on_the_right n place leaf beside (reverse below) right
          ∙ ap (λ (m : ℕ). node_hash beside (root_by m (place - k) leaf (reverse below)))
          (sym (length_back leaves))
          ∙ ap (node_hash beside) so_far
          ∙ sym (hash_of_more leaves some)
    ]

pub path_shows : (leaves : List (List ℕ)) (place : ℕ) (leaf : List ℕ) →
    slice_get leaves place ≡ Some leaf →
    ShowsLeaf (merkle_tree_hash leaves) (length leaves) place leaf (audit_path leaves place)
path_shows leaves place leaf is = record {
  within = slice_get_within leaves place leaf is;
  long = path_is_long leaves place (slice_get_within leaves place leaf is);
  leads = leads_in (length leaves) leaves place leaf (omega arith) is;
}
