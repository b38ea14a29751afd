-- What a path shows is there, where the hashed strings don't collide.
use Rattle.std.proofs.Common.{◌≡◌, ℕ, zero, suc, ◌-◌, ◌<◌, ◌≤◌, nat_lt, List, [], ◌∷◌, ◌++◌, length, reverse, Some, refl, ap, sym, ◌∙◌, inl, inr, arith, subst}
use Rattle.std.specs.Prelude.{slice_get}
use Rattle.sha2.proofs.Facts256.{length-sha256}
use Rattle.std.proofs.lemmas.Bool.{lt-ltb, le-ltb, cases_lt, cond_both}
use Rattle.std.proofs.lemmas.List.{reverse-reverse, length-reverse}
use Rattle.cs_merkle.specs.Tree.{Tree, Empty, Leaf, Node, split, tree_of, hash, leaf_string, node_string, node_hash, merkle_tree_hash}
use Rattle.cs_merkle.specs.Path.{audit_path, path_length, root_by, ShowsLeaf}
use Rattle.cs_merkle.specs.Collisions.{strings_in, strings_by, NoTreeCollision}
use Rattle.cs_merkle.proofs.Splits.{split_below}
use Rattle.cs_merkle.proofs.Trees.{middle, front, back, length_front, length_back, halves_shorter, tree_of_more, hash_of_one, hash_of_more, path_of_one, path_on_the_left, path_on_the_right}
use Rattle.cs_merkle.proofs.Lengths.{length_of_few, length_on_the_left, length_on_the_right}
use Rattle.cs_merkle.proofs.Roots.{root_on_the_left, root_on_the_right, leaf_in_front, leaf_in_back, reverse_last}
use Rattle.cs_merkle.proofs.Apart.{Apart, same_apart, one_leaf, left_half, right_half}

-- ---- hashes have 32 bytes

long_hash : (tree : Tree) → length (hash tree) ≡ 32
long_hash Empty = length-sha256 []
long_hash (Leaf leaf) = length-sha256 (leaf_string leaf)
long_hash (Node left right) = length-sha256 (node_string (hash left) (hash right))

long_tree_hash : (leaves : List (List ℕ)) → length (merkle_tree_hash leaves) ≡ 32
unfolding merkle_tree_hash
long_tree_hash leaves = long_hash (tree_of leaves)

long_root : (n place : ℕ) (leaf : List ℕ) (below : List (List ℕ)) →
    length (root_by n place leaf below) ≡ 32
long_root n place leaf [] = length-sha256 (leaf_string leaf)
long_root n place leaf (beside ∷ below) =
    let k = split n in
    cond_both (nat_lt place k)
    (node_hash (root_by k place leaf below) beside)
    (node_hash beside (root_by (n - k) (place - k) leaf below))
    (λ root. length root ≡ 32) (λ left. length-sha256 _) (λ right. length-sha256 _)

same_length : (leaves : List (List ℕ)) (n place : ℕ) (leaf : List ℕ) (below : List (List ℕ)) →
    length (merkle_tree_hash leaves) ≡ length (root_by n place leaf below)
same_length leaves n place leaf below =
    long_tree_hash leaves ∙ sym (long_root n place leaf below)

-- ---- the strings of a node and below it

strings_on_the_left : (n place : ℕ) (leaf beside : List ℕ) (below : List (List ℕ)) →
    place < split n → strings_by n place leaf (beside ∷ below) ≡
    node_string (root_by (split n) place leaf below) beside ∷ strings_by (split n) place leaf below
strings_on_the_left n place leaf beside below left = rw (lt-ltb place (split n) left) refl

strings_on_the_right : (n place : ℕ) (leaf beside : List ℕ) (below : List (List ℕ)) →
    split n ≤ place → strings_by n place leaf (beside ∷ below) ≡
    node_string beside (root_by (n - split n) (place - split n) leaf below)
    ∷ strings_by (n - split n) (place - split n) leaf below
strings_on_the_right n place leaf beside below right = rw (le-ltb place (split n) right) refl

strings_of_more : (leaves : List (List ℕ)) → 1 < length leaves → strings_in (tree_of leaves) ≡
    node_string (merkle_tree_hash (front leaves)) (merkle_tree_hash (back leaves))
    ∷ (strings_in (tree_of (front leaves)) ++ strings_in (tree_of (back leaves)))
unfolding merkle_tree_hash
strings_of_more leaves some = ap strings_in (tree_of_more leaves some)

strings_of_one : (leaf : List ℕ) → strings_in (tree_of (leaf ∷ [])) ≡ leaf_string leaf ∷ []
unfolding tree_of
strings_of_one leaf = refl

-- ---- down the tree

-- what is known at a tree below the root: the path is as long as it has to be, and leads there
record Here (leaves : List (List ℕ)) (place : ℕ) (leaf : List ℕ)
    (below : List (List ℕ)) : Type 0 where
  within : place < length leaves
  long : length below ≡ path_length (length leaves) place
  apart : Apart (strings_in (tree_of leaves)) (strings_by (length leaves) place leaf below)
  leads : root_by (length leaves) place leaf below ≡ merkle_tree_hash leaves

-- the leaf is there, and the path, read from the root down, is its audit path
abbrev IsThere : List (List ℕ) → ℕ → List ℕ → List (List ℕ) → Type 0
IsThere leaves place leaf below =
    (slice_get leaves place ≡ Some leaf) × (below ≡ reverse (audit_path leaves place))

one_more : (below : List (List ℕ)) (beside hash : List ℕ) (part path : List (List ℕ)) →
    below ≡ reverse part → beside ≡ hash → path ≡ part ++ hash ∷ [] → beside ∷ below ≡ reverse path
one_more below beside hash part path below_is beside_is path_is =
    rw (below_is, beside_is) (sym (reverse_last part hash)) ∙ ap reverse (sym path_is)

step_left : (leaves : List (List ℕ)) (place : ℕ) (leaf beside : List ℕ) (below : List (List ℕ)) →
    1 < length leaves → place < middle leaves → Here leaves place leaf (beside ∷ below) →
    (beside ≡ merkle_tree_hash (back leaves)) × Here (front leaves) place leaf below
step_left leaves place leaf beside below some left here =
    let n = length leaves in
    let k = middle leaves in
    let front_is = length_front leaves some in
    let long = here.long in
    let (root_is, beside_is, rest) =
    left_half (strings_in (tree_of (front leaves))) (strings_in (tree_of (back leaves)))
    (strings_by k place leaf below)
    (merkle_tree_hash (front leaves)) (merkle_tree_hash (back leaves))
    (root_by k place leaf below) beside
    (same_apart _ _ _ _ (strings_of_more leaves some)
    (strings_on_the_left n place leaf beside below left) here.apart)
    (same_length (front leaves) k place leaf below)
    (sym (root_on_the_left n place leaf beside below left) ∙ here.leads
    ∙ hash_of_more leaves some) in (
      beside_is,
      record {
        within = omega (arith, left, front_is);
        long = rw front_is (omega (arith, long, length_on_the_left n place some left));
        apart = rw front_is rest;
        leads = rw front_is root_is;
      },
    )

step_right : (leaves : List (List ℕ)) (place : ℕ) (leaf beside : List ℕ) (below : List (List ℕ)) →
    1 < length leaves → middle leaves ≤ place → Here leaves place leaf (beside ∷ below) →
    (beside ≡ merkle_tree_hash (front leaves))
    × Here (back leaves) (place - middle leaves) leaf below
step_right leaves place leaf beside below some right here =
    let n = length leaves in
    let k = middle leaves in
    let back_is = length_back leaves in
    let long = here.long in
    let within = here.within in
    let (beside_is, root_is, rest) =
    right_half (strings_in (tree_of (front leaves))) (strings_in (tree_of (back leaves)))
    (strings_by (n - k) (place - k) leaf below)
    (merkle_tree_hash (front leaves)) (merkle_tree_hash (back leaves))
    beside (root_by (n - k) (place - k) leaf below)
    (same_apart _ _ _ _ (strings_of_more leaves some)
    (strings_on_the_right n place leaf beside below right) here.apart)
    (same_length (back leaves) (n - k) (place - k) leaf below)
    (sym (root_on_the_right n place leaf beside below right) ∙ here.leads
    ∙ hash_of_more leaves some) in (
      beside_is,
      record {
        within = omega (arith, within, right, back_is, split_below n some);
        long = rw back_is (omega (arith, long, length_on_the_right n place some right));
        apart = rw back_is rest;
        leads = rw back_is root_is;
      },
    )

not_empty : (n place : ℕ) → 1 < n → path_length n place ≡ 0 → ⊥
not_empty n place some none =
    elim (cases_lt place (split n)) [
      | inl left ↦ omega (arith, none, length_on_the_left n place some left)
      | inr right ↦ omega (arith, none, length_on_the_right n place some right)
    ]

there_in : (d : ℕ) (leaves : List (List ℕ)) (place : ℕ) (leaf : List ℕ) (below : List (List ℕ)) →
    length leaves ≤ d → Here leaves place leaf below → IsThere leaves place leaf below
there_in d [] place leaf below few here = let within = here.within in absurd (omega (arith, within))
there_in d (only ∷ []) (suc place) leaf below few here =
    let within = here.within in absurd (omega (arith, within))
there_in d (only ∷ []) zero leaf (beside ∷ below) few here =
    let long = here.long in absurd (omega (arith, long, length_of_few 1 0 (omega arith)))
there_in d (only ∷ []) zero leaf [] few here =
    let apart = subst (λ xs. Apart xs (leaf_string leaf ∷ [])) (strings_of_one only) here.apart in
    let same = one_leaf only leaf apart (here.leads ∙ hash_of_one only) in
    (ap (λ (x : List ℕ). Some x) same, sym (ap reverse (path_of_one only 0)))
there_in zero (first ∷ next ∷ more) place leaf below few here = absurd (omega (arith, few))
there_in (suc d) (first ∷ next ∷ more) place leaf [] few here =
    absurd (not_empty (length (first ∷ next ∷ more)) place (omega arith) (sym here.long))
there_in (suc d) (first ∷ next ∷ more) place leaf (beside ∷ below) few here =
    let leaves : List (List ℕ) = first ∷ next ∷ more in
    let k = middle leaves in
    let some : 1 < length leaves = omega arith in
    let (less_front, less_back) = halves_shorter leaves some in
    elim (cases_lt place k) [
      | inl left ↦
          let (beside_is, below_here) = step_left leaves place leaf beside below some left here in
          let (leaf_is, below_is) =
          there_in d (front leaves) place leaf below
          (omega (arith, less_front, few)) below_here in (
            sym (leaf_in_front leaves place left) ∙ leaf_is,
            one_more below beside (merkle_tree_hash (back leaves))
                (audit_path (front leaves) place) (audit_path leaves place) below_is beside_is
                (path_on_the_left leaves place some left),
          )
      | inr right ↦
          let (beside_is, below_here) = step_right leaves place leaf beside below some right here in
          let (leaf_is, below_is) =
          there_in d (back leaves) (place - k) leaf below
          (omega (arith, less_back, few)) below_here in (
            sym (leaf_in_back leaves place right) ∙ leaf_is,
            one_more below beside (merkle_tree_hash (front leaves))
                (audit_path (back leaves) (place - k)) (audit_path leaves place) below_is beside_is
                (path_on_the_right leaves place some right),
          )
    ]

pub shown_is_there : (leaves : List (List ℕ)) (place : ℕ) (leaf : List ℕ) (path : List (List ℕ)) →
    NoTreeCollision leaves place leaf path →
    ShowsLeaf (merkle_tree_hash leaves) (length leaves) place leaf path →
    (slice_get leaves place ≡ Some leaf) × (path ≡ audit_path leaves place)
shown_is_there leaves place leaf path apart shows =
    let (leaf_is, path_is) =
    there_in (length leaves) leaves place leaf (reverse path) (omega arith) (record {
      within = shows.within;
      long = length-reverse path ∙ shows.long;
      apart = apart;
      leads = shows.leads;
    }) in (
      leaf_is,
      sym (reverse-reverse path) ∙ ap reverse path_is
          ∙ reverse-reverse (audit_path leaves place),
    )
