-- Tallies of each of some shards, and what they say.
use Rattle.std.proofs.Common.{◌≡◌, ℕ, zero, suc, ◌+◌, ◌<◌, Bool, List, [], ◌∷◌, ◌++◌, length, Some, inl, inr, refl, ap, subst, ◌∙◌, arith, length-append, if◌then◌else◌}
use Rattle.std.specs.Prelude.{◌⊎◌, slice_get, ◌&&◌, ◌||◌}
use Rattle.std.specs.List.{list_all, list_any, AllByRecursion}
use Rattle.std.proofs.lemmas.Option.{slice_get_within}
use Rattle.cs_order.specs.Counts.{count_below}
use Rattle.cs_client.specs.Voices.{Pairwise}

-- ---- elements

-- what stands in a list with one more
pub got-more : {X : Type 0} (xs : List X) (x : X) (k : ℕ) (z : X) → slice_get (xs ++ x ∷ []) k ≡ Some z → (slice_get xs k ≡ Some z) ⊎ ((k ≡ length xs) × (x ≡ z))
got-more [] x zero z is = inr (refl, cc)
got-more [] x (suc k) z is = absurd cc
got-more (y ∷ xs) x zero z is = inl is
got-more (y ∷ xs) x (suc k) z is =
    elim (got-more xs x k z is) [
      | inl before ↦ inl before
      | inr last ↦ inr (ap suc last.0, last.1)
    ]

pub got-at : {X : Type 0} (xs : List X) (k : ℕ) → k < length xs → (x : X) × (slice_get xs k ≡ Some x)
got-at [] k less = absurd (omega arith)
got-at (x ∷ xs) zero less = (x, refl)
got-at (x ∷ xs) (suc k) less = got-at xs k (omega arith)

-- ---- lists of which each two at one place are related

module _ {A B : Type 0} (R : A → B → Type 0) where
  pub none-paired : Pairwise R [] []
  none-paired = record { many = refl; each = λ k x y gx gy. absurd cc }

  pub paired-more : (xs : List A) (ys : List B) (x : A) (y : B) → Pairwise R xs ys → R x y → Pairwise R (xs ++ x ∷ []) (ys ++ y ∷ [])
  paired-more xs ys x y pairs last = record {
    many = let e = pairs.many in let a = length-append xs (x ∷ []) in let b = length-append ys (y ∷ []) in omega arith;
    each = λ k v w gv gw. by k v w (got-more xs x k v gv) (got-more ys y k w gw);
  }
    where
      by : (k : ℕ) (v : A) (w : B) → (slice_get xs k ≡ Some v) ⊎ ((k ≡ length xs) × (x ≡ v)) → (slice_get ys k ≡ Some w) ⊎ ((k ≡ length ys) × (y ≡ w)) → R v w
      by k v w (inl a) (inl b) = pairs.each k v w a b
      by k v w (inr a) (inr b) = subst (λ s. R s w) a.1 (subst (R x) b.1 last)
      by k v w (inl a) (inr b) = let less = slice_get_within xs k v a in let long = pairs.many in absurd (omega (arith, b.0))
      by k v w (inr a) (inl b) = let less = slice_get_within ys k w b in let long = pairs.many in absurd (omega (arith, a.0))

  -- the first two, and the rest
  pub paired-first : (x : A) (xs : List A) (y : B) (ys : List B) → Pairwise R (x ∷ xs) (y ∷ ys) → R x y × Pairwise R xs ys
  paired-first x xs y ys pairs =
      (pairs.each 0 x y refl refl, record { many = let e = pairs.many in omega arith; each = λ k v w gv gw. pairs.each (suc k) v w gv gw })

  pub all-paired : (p : A → Bool) (q : B → Bool) → ((x : A) (y : B) → R x y → q y ≡ p x) → (xs : List A) (ys : List B) → Pairwise R xs ys → list_all q ys ≡ list_all p xs
  all-paired p q same [] [] pairs = refl
  all-paired p q same [] (y ∷ ys) pairs = let e = pairs.many in absurd (omega arith)
  all-paired p q same (x ∷ xs) [] pairs = let e = pairs.many in absurd (omega arith)
  all-paired p q same (x ∷ xs) (y ∷ ys) pairs =
      let parts = paired-first x xs y ys pairs in
      ap (λ t. t && list_all q ys) (same x y parts.0) ∙ ap (λ t. p x && t) (all-paired p q same xs ys parts.1)

  pub any-paired : (p : A → Bool) (q : B → Bool) → ((x : A) (y : B) → R x y → q y ≡ p x) → (xs : List A) (ys : List B) → Pairwise R xs ys → list_any q ys ≡ list_any p xs
  any-paired p q same [] [] pairs = refl
  any-paired p q same [] (y ∷ ys) pairs = let e = pairs.many in absurd (omega arith)
  any-paired p q same (x ∷ xs) [] pairs = let e = pairs.many in absurd (omega arith)
  any-paired p q same (x ∷ xs) (y ∷ ys) pairs =
      let parts = paired-first x xs y ys pairs in
      ap (λ t. t || list_any q ys) (same x y parts.0) ∙ ap (λ t. p x || t) (any-paired p q same xs ys parts.1)

  pub each-paired : (P : B → Type 0) → ((x : A) (y : B) → R x y → P y) → (xs : List A) (ys : List B) → Pairwise R xs ys → AllByRecursion P ys
  each-paired P fit [] [] pairs = tt
  each-paired P fit [] (y ∷ ys) pairs = let e = pairs.many in absurd (omega arith)
  each-paired P fit (x ∷ xs) [] pairs = let e = pairs.many in absurd (omega arith)
  each-paired P fit (x ∷ xs) (y ∷ ys) pairs =
      let parts = paired-first x xs y ys pairs in (fit x y parts.0, each-paired P fit xs ys parts.1)

-- counts of tests that agree below
pub counts-alike : (n : ℕ) (p q : ℕ → Bool) → ((i : ℕ) → i < n → p i ≡ q i) → count_below n p ≡ count_below n q
unfolding count_below
counts-alike zero p q same = refl
counts-alike (suc n) p q same =
    let rest : count_below n p ≡ count_below n q = counts-alike n p q (λ i less. same i (omega arith)) in
    ap (λ t. (if t then 1 else 0) + count_below n p) (same n (omega arith)) ∙ ap (λ m. (if q n then 1 else 0) + m) rest
