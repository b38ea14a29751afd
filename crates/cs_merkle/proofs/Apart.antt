-- Two strings with one hash, where the strings of two lists don't collide.
use Rattle.std.proofs.Common.{◌≡◌, ℕ, List, [], ◌∷◌, ◌++◌, length, take, drop, refl, ap, sym, ◌∙◌, arith, length-append, subst}
use Rattle.std.specs.Prelude.{Contains}
use Rattle.sha2.specs.Sha256.{sha256}
use Rattle.std.proofs.lemmas.List.{take_at, drop_at}
use Rattle.std.proofs.lemmas.List.Elements.{Contains-append_left, Contains-append_right}
use Rattle.cs_merkle.specs.Tree.{leaf_string, node_string, leaf_hash, node_hash}

-- a string of the one list and one of the other with one hash are one
abbrev pub Apart : List (List ℕ) → List (List ℕ) → Type 0
Apart xs ys = (a b : List ℕ) → Contains xs a → Contains ys b → sha256 a ≡ sha256 b → a ≡ b

pub same_apart : (xs us ys vs : List (List ℕ)) → xs ≡ us → ys ≡ vs → Apart xs ys → Apart us vs
same_apart xs us ys vs same_xs same_ys apart =
    subst (λ zs. Apart us zs) same_ys (subst (λ zs. Apart zs ys) same_xs apart)

same_by_fronts : (a b c d : List ℕ) → length a ≡ length c → node_string a b ≡ node_string c d →
    (a ≡ c) × (b ≡ d)
same_by_fronts a b c d long same =
    let joined : a ++ b ≡ c ++ d = cc in (
      sym (take_at a b (length c) long) ∙ ap (take (length c)) joined ∙ take_at c d (length c) refl,
      sym (drop_at a b (length c) long) ∙ ap (drop (length c)) joined
          ∙ drop_at c d (length c) refl,
    )

same_by_backs : (a b c d : List ℕ) → length b ≡ length d → node_string a b ≡ node_string c d →
    (a ≡ c) × (b ≡ d)
same_by_backs a b c d long same =
    let joined : a ++ b ≡ c ++ d = cc in
    let total = ap length joined in
    same_by_fronts a b c d (omega (arith, long, length-append a b, length-append c d, total)) same

first_there : (x : List ℕ) (xs : List (List ℕ)) → Contains (x ∷ xs) x
first_there x xs = (0, omega arith, refl)

rest_there : (x y : List ℕ) (xs : List (List ℕ)) → Contains xs y → Contains (x ∷ xs) y
rest_there x y xs there = Contains-append_right (x ∷ []) xs y there

pub one_leaf : (a b : List ℕ) → Apart (leaf_string a ∷ []) (leaf_string b ∷ []) →
    leaf_hash b ≡ leaf_hash a → a ≡ b
one_leaf a b apart same =
    let strings : leaf_string a ≡ leaf_string b =
    apart (leaf_string a) (leaf_string b)
    (first_there (leaf_string a) []) (first_there (leaf_string b) []) (sym same) in
    cc

one_string : (xs ys : List (List ℕ)) (a b c d : List ℕ) →
    Apart (node_string a b ∷ xs) (node_string c d ∷ ys) → node_hash c d ≡ node_hash a b →
    node_string a b ≡ node_string c d
one_string xs ys a b c d apart same =
    apart (node_string a b) (node_string c d)
    (first_there (node_string a b) xs) (first_there (node_string c d) ys) (sym same)

-- of two nodes with one hash the halves are one, and below them nothing collides either
pub left_half : (l r ys : List (List ℕ)) (a b c d : List ℕ) →
    Apart (node_string a b ∷ (l ++ r)) (node_string c d ∷ ys) → length a ≡ length c →
    node_hash c d ≡ node_hash a b → (c ≡ a) × (d ≡ b) × Apart l ys
left_half l r ys a b c d apart long same =
    let (fronts, backs) = same_by_fronts a b c d long (one_string (l ++ r) ys a b c d apart same) in (
      sym fronts,
      sym backs,
      λ x y x_in y_in. apart x y
          (rest_there (node_string a b) x (l ++ r) (Contains-append_left l r x x_in))
          (rest_there (node_string c d) y ys y_in),
    )

pub right_half : (l r ys : List (List ℕ)) (a b c d : List ℕ) →
    Apart (node_string a b ∷ (l ++ r)) (node_string c d ∷ ys) → length b ≡ length d →
    node_hash c d ≡ node_hash a b → (c ≡ a) × (d ≡ b) × Apart r ys
right_half l r ys a b c d apart long same =
    let (fronts, backs) = same_by_backs a b c d long (one_string (l ++ r) ys a b c d apart same) in (
      sym fronts,
      sym backs,
      λ x y x_in y_in. apart x y
          (rest_there (node_string a b) x (l ++ r) (Contains-append_right l r x x_in))
          (rest_there (node_string c d) y ys y_in),
    )
