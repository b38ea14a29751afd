-- Numbers of names.
use Rattle.std.proofs.Common.{◌≡◌, ℕ, zero, suc, ◌+◌, ◌⊎◌, Bool, true, false, cond, List, [], ◌∷◌, ◌++◌, length, Some, None, refl, sym, ap, subst, ◌∙◌, arith, inl, inr}
use Rattle.std.specs.Prelude.{slice_get}
use Rattle.std.specs.Str.{bytes_eq}
use Rattle.std.specs.Cmp.Lexicographic.{bytes_decides}
use Rattle.cs_lang_names.specs.Numbering.{number_from, number_of, AreDistinct}

some_is : {A : Type 0} (x y : A) → Some x ≡ Some y → x ≡ y
some_is x y is = cc

none_some : {A : Type 0} (x : A) → None ≡ Some x → ⊥
none_some x is = cc

pub same_bytes : (a b : List ℕ) → bytes_eq a b ≡ true → a ≡ b
same_bytes a b e = (bytes_decides a b).0 e

pub bytes_refl : (a : List ℕ) → bytes_eq a a ≡ true
bytes_refl a = (bytes_decides a a).1 refl

module _ (name : List ℕ) where
  -- ---- what stands at a number

  stands_at : (ns : List (List ℕ)) (i k : ℕ) → number_from name i ns ≡ Some k → (j : ℕ) × (k ≡ i + j) × (slice_get ns j ≡ Some name)
  stands_at [] i k h = absurd (none_some k h)
  stands_at (n ∷ ns) i k h =
      (elim (bytes_eq n name) as (λ b. bytes_eq n name ≡ b → cond b (Some i) (number_from name (i + 1) ns) ≡ Some k
      → (j : ℕ) × (k ≡ i + j) × (slice_get (n ∷ ns) j ≡ Some name)) [
        | true ↦ λ pass first. (0, omega (arith, some_is i k first), ap (λ (m : List ℕ). Some m) (same_bytes n name pass))
        | false ↦ λ pass later. let there = stands_at ns (i + 1) k later in (suc there.0, omega (arith, there.1), there.2)
      ]) refl h

  pub named_at : (ns : List (List ℕ)) (k : ℕ) → number_of name ns ≡ Some k → slice_get ns k ≡ Some name
  named_at ns k is =
      let there = stands_at ns 0 k is in
      let same : there.0 ≡ k = omega (arith, there.1) in
      ap (slice_get ns) (sym same) ∙ there.2

  -- ---- with one more

  kept_number : (ns ms : List (List ℕ)) (i k : ℕ) → number_from name i ns ≡ Some k → number_from name i (ns ++ ms) ≡ Some k
  kept_number [] ms i k h = absurd (none_some k h)
  kept_number (n ∷ ns) ms i k h =
      (elim (bytes_eq n name) as (λ b. cond b (Some i) (number_from name (i + 1) ns) ≡ Some k → cond b (Some i) (number_from name (i + 1) (ns ++ ms)) ≡ Some k) [
        | true ↦ λ first. first
        | false ↦ λ later. kept_number ns ms (i + 1) k later
      ]) h

  new_number : (ns : List (List ℕ)) (i : ℕ) → number_from name i ns ≡ None → number_from name i (ns ++ name ∷ []) ≡ Some (i + length ns)
  new_number [] i h =
      let at : i ≡ i + 0 = omega arith in
      ap (λ (b : Bool). cond b (Some i) None) (bytes_refl name) ∙ ap (λ (m : ℕ). Some m) at
  new_number (n ∷ ns) i h =
      let at : (i + 1) + length ns ≡ i + suc (length ns) = omega arith in
      (elim (bytes_eq n name) as (λ b. cond b (Some i) (number_from name (i + 1) ns) ≡ None → cond b (Some i) (number_from name (i + 1) (ns ++ name ∷ [])) ≡ Some (i + suc (length ns))) [
        | true ↦ λ first. absurd (none_some i (sym first))
        | false ↦ λ later. new_number ns (i + 1) later ∙ ap (λ (m : ℕ). Some m) at
      ]) h

-- names of one number are one
pub one_name : (ns : List (List ℕ)) (x y : List ℕ) (k : ℕ) → number_of x ns ≡ Some k → number_of y ns ≡ Some k → x ≡ y
one_name ns x y k first second = some_is x y (sym (named_at x ns k first) ∙ named_at y ns k second)

old_or_new : (ns : List (List ℕ)) (x : List ℕ) (j : ℕ) (name : List ℕ) → slice_get (ns ++ x ∷ []) j ≡ Some name
    → (slice_get ns j ≡ Some name) ⊎ ((j ≡ length ns) × (x ≡ name))
old_or_new [] x zero name h = inr (refl, some_is x name h)
old_or_new [] x (suc j) name h = absurd (none_some name h)
old_or_new (n ∷ ns) x zero name h = inl h
old_or_new (n ∷ ns) x (suc j) name h = elim (old_or_new ns x j name h) [ inl old ↦ inl old | inr new ↦ inr (ap suc new.0, new.1) ]

pub none_distinct : AreDistinct []
none_distinct = λ number name at. absurd (none_some name at)

pub one_more_distinct : (ns : List (List ℕ)) (x : List ℕ) → AreDistinct ns → number_of x ns ≡ None → AreDistinct (ns ++ x ∷ [])
one_more_distinct ns x distinct none = λ number name at. elim (old_or_new ns x number name at) [
  | inl old ↦ kept_number name ns (x ∷ []) 0 number (distinct number name old)
  | inr new ↦
      let last : 0 + length ns ≡ number = omega (arith, new.0) in
      subst (λ (y : List ℕ). number_of y (ns ++ x ∷ []) ≡ Some number) new.1 (new_number x ns 0 none ∙ ap (λ (m : ℕ). Some m) last)
]

-- what stands beside an offset, where it is the name
pub told_number : (ns : List (List ℕ)) (number : ℕ) (found name : List ℕ) → AreDistinct ns → Some found ≡ slice_get ns number → bytes_eq found name ≡ true
    → Some number ≡ number_of name ns
told_number ns number found name distinct is same =
    sym (distinct number name (sym is ∙ ap (λ (m : List ℕ). Some m) (same_bytes found name same)))
