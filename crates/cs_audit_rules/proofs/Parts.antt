-- Tests that chose, and members of lists.
use Rattle.std.proofs.Common.{◌≡◌, inl, inr, Bool, true, false, List, [], ◌∷◌, map, Option, Some, None, refl, sym, ap, subst, ◌∙◌}
use Rattle.std.specs.Prelude.{not, if◌then◌else◌, option_map, filter, find}
use Rattle.std.specs.List.{flat_map, list_all}
use Rattle.std.proofs.lemmas.Bool.{cases_Bool, and_parts}
use Rattle.cs_base.specs.Options.{or_else}
use Rattle.cs_base.specs.Lists.{IsIn}
use Rattle.cs_ledger.proofs.Basics.{in_left, in_right, in_either}

pub neither_there : {A : Type 0} (first later : Option A) → or_else first later ≡ None → (first ≡ None) × (later ≡ None)
neither_there (Some x) later is = absurd cc
neither_there None later is = (refl, is)

pub map_none : {A B : Type 0} (f : A → B) (o : Option A) → option_map f o ≡ None → o ≡ None
map_none f (Some x) is = absurd cc
map_none f None is = refl

-- a test that failed would have told something
pub passed : {A : Type 0} (test : Bool) (a : A) (more : Option A) → (if not test then Some a else more) ≡ None → (test ≡ true) × (more ≡ None)
passed true a more is = (refl, is)
passed false a more is = absurd cc

pub held : {A : Type 0} (test : Bool) (a : A) (more : Option A) → (if test then more else Some a) ≡ None → (test ≡ true) × (more ≡ None)
held true a more is = (refl, is)
held false a more is = absurd cc

pub in_map : {A B : Type 0} (f : A → B) (x : A) (xs : List A) → IsIn x xs → IsIn (f x) (map f xs)
in_map f x [] within = absurd within
in_map f x (y ∷ ys) (inl is) = inl (ap f is)
in_map f x (y ∷ ys) (inr within) = inr (in_map f x ys within)

pub of_map : {A B : Type 0} (f : A → B) (y : B) (xs : List A) → IsIn y (map f xs) → (x : A) × (IsIn x xs) × (y ≡ f x)
of_map f y [] within = absurd within
of_map f y (x ∷ xs) (inl is) = (x, inl refl, is)
of_map f y (x ∷ xs) (inr within) = let rest = of_map f y xs within in (rest.0, inr rest.1, rest.2)

pub in_flat : {A B : Type 0} (f : A → List B) (x : A) (y : B) (xs : List A) → IsIn x xs → IsIn y (f x) → IsIn y (flat_map f xs)
in_flat f x y [] within here = absurd within
in_flat f x y (z ∷ zs) (inl is) here = in_left y (f z) (flat_map f zs) (subst (λ v. IsIn y (f v)) is here)
in_flat f x y (z ∷ zs) (inr within) here = in_right y (f z) (flat_map f zs) (in_flat f x y zs within here)

pub of_flat : {A B : Type 0} (f : A → List B) (y : B) (xs : List A) → IsIn y (flat_map f xs) → (x : A) × (IsIn x xs) × (IsIn y (f x))
of_flat f y [] within = absurd within
of_flat f y (z ∷ zs) within =
    elim (in_either y (f z) (flat_map f zs) within) [
      | inl here ↦ (z, inl refl, here)
      | inr later ↦ let rest = of_flat f y zs later in (rest.0, inr rest.1, rest.2)
    ]

pub in_filter : {A : Type 0} (test : A → Bool) (x : A) (xs : List A) → IsIn x xs → test x ≡ true → IsIn x (filter test xs)
in_filter test x [] within passes = absurd within
in_filter test x (y ∷ ys) (inl is) passes = rw (ap test (sym is) ∙ passes) (inl is)
in_filter test x (y ∷ ys) (inr within) passes =
    elim (cases_Bool (test y)) [
      | inl pass ↦ rw pass (inr (in_filter test x ys within passes))
      | inr fail ↦ rw fail (in_filter test x ys within passes)
    ]

pub of_filter : {A : Type 0} (test : A → Bool) (x : A) (xs : List A) → IsIn x (filter test xs) → (IsIn x xs) × (test x ≡ true)
of_filter test x [] within = absurd within
of_filter {A} test x (y ∷ ys) within = by (test y) refl (λ later. of_filter test x ys later) within
  where
    by : (b : Bool) → test y ≡ b → (IsIn x (filter test ys) → (IsIn x ys) × (test x ≡ true))
        → IsIn x (if b then y ∷ filter test ys else filter test ys) → (IsIn x (y ∷ ys)) × (test x ≡ true)
    by true pass more (inl is) = (inl is, ap test is ∙ pass)
    by true pass more (inr later) = (inr (more later).0, (more later).1)
    by false fail more later = (inr (more later).0, (more later).1)

-- what was found is there, and passes
pub of_find : {A : Type 0} (test : A → Bool) (x : A) (xs : List A) → find test xs ≡ Some x → (IsIn x xs) × (test x ≡ true)
of_find test x [] is = absurd cc
of_find {A} test x (y ∷ ys) is = by (test y) refl (λ later. of_find test x ys later) is
  where
    by : (b : Bool) → test y ≡ b → (find test ys ≡ Some x → (IsIn x ys) × (test x ≡ true))
        → (if b then Some y else find test ys) ≡ Some x → (IsIn x (y ∷ ys)) × (test x ≡ true)
    by true pass more found = let same : y ≡ x = cc in (inl (sym same), ap test (sym same) ∙ pass)
    by false fail more found = (inr (more found).0, (more found).1)

pub of_all : {A : Type 0} (test : A → Bool) (x : A) (xs : List A) → list_all test xs ≡ true → IsIn x xs → test x ≡ true
of_all test x [] all within = absurd within
of_all test x (y ∷ ys) all (inl is) = ap test is ∙ (and_parts (test y) (list_all test ys) all).0
of_all test x (y ∷ ys) all (inr within) = of_all test x ys (and_parts (test y) (list_all test ys) all).1 within
