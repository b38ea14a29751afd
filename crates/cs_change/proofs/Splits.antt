-- The greatest number that passes a test.
use Rattle.std.proofs.Common.{◌≡◌, ℕ, zero, suc, ◌+◌, ◌-◌, ◌≤◌, ◌<◌, nat_le, Bool, true, false, ◌||◌, if◌then◌else◌, Option, Some, None, inl, inr, refl, sym, ap, ◌∙◌, subst, arith}
use Rattle.std.proofs.lemmas.Bool.Decides.{eqb_tells, leb_tells}
use Rattle.std.specs.Prelude.{SomeIff}
use Rattle.cs_order.specs.Counts.{last_below, any_below}

-- what the greatest is
abbrev pub IsLast : ℕ → (ℕ → Bool) → Option ℕ → Type 0
IsLast all test None = (v : ℕ) → v < all → test v ≡ false
IsLast all test (Some n) = (n < all) × (test n ≡ true) × ((v : ℕ) → n < v → v < all → test v ≡ false)

none_more : (all : ℕ) (test : ℕ → Bool) (o : Option ℕ) → test all ≡ false → IsLast all test o → IsLast (suc all) test o
none_more all test None fails is = λ v less.
    elim (eqb_tells v all) [
      | inl same ↦ subst (λ w. test w ≡ false) (sym same.1) fails
      | inr other ↦ is v (let e = other.1 in omega arith)
    ]
none_more all test (Some n) fails is =
    let less = is.0 in (
      (omega arith),
      is.1,
      λ v above less.
          elim (eqb_tells v all) [
            | inl same ↦ subst (λ w. test w ≡ false) (sym same.1) fails
            | inr other ↦ is.2 v above (let e = other.1 in omega arith)
          ],
    )

pub last_is : (all : ℕ) (test : ℕ → Bool) → IsLast all test (last_below all test)
unfolding last_below
last_is zero test = λ v less. absurd (omega arith)
last_is (suc all) test = either (test all) refl (last_is all test)
  where
    either : (b : Bool) → test all ≡ b → IsLast all test (last_below all test) → IsLast (suc all) test (if b then Some all else last_below all test)
    either true is rest = ((omega arith), is, λ v above less. absurd (omega arith))
    either false is rest = none_more all test (last_below all test) is rest

-- there is one greatest
one : (all : ℕ) (test : ℕ → Bool) (o p : Option ℕ) → IsLast all test o → IsLast all test p → o ≡ p
one all test None None a b = refl
one all test None (Some m) a b = absurd (let no = a m b.0 in let yes = b.1 in cc)
one all test (Some n) None a b = absurd (let no = b n a.0 in let yes = a.1 in cc)
one all test (Some n) (Some m) a b =
    elim (leb_tells m n) [
      | inl more ↦
          elim (leb_tells n m) [
            | inl upto ↦ ap Some (let e = more.1 in let d = upto.1 in omega arith)
            | inr less ↦ absurd (let no = b.2 n less.1 a.0 in let yes = a.1 in cc)
          ]
      | inr less ↦ absurd (let no = a.2 m less.1 b.0 in let yes = b.1 in cc)
    ]

pub last_found : (all : ℕ) (test : ℕ → Bool) (o : Option ℕ) → IsLast all test o → o ≡ last_below all test
last_found all test o is = one all test o (last_below all test) is (last_is all test)

-- it passes up to a number, and not from there on
pub splits : (all n : ℕ) (test : ℕ → Bool) (o : Option ℕ) → n ≤ all → ((v : ℕ) → v < n → test v ≡ true) → ((v : ℕ) → n ≤ v → v < all → test v ≡ false) → SomeIff o (1 ≤ n) (n - 1) → o ≡ last_below all test
splits all n test None few below above is =
    elim (leb_tells 1 n) [
      | inl some ↦ absurd (is some.1)
      | inr none ↦ last_found all test None (λ v less. above v (let e = none.1 in omega arith) less)
    ]
splits all n test (Some m) few below above is =
    let some = is.0 in
    let same = is.1 in
    last_found all test (Some m) ((omega arith), below m (omega arith), λ v more less. above v (omega arith) less)

any_next : (n : ℕ) (test : ℕ → Bool) → test n ≡ false → any_below n test ≡ false → any_below (suc n) test ≡ false
unfolding any_below
any_next n test here before = rw (here, before) refl

pub none_passes : (n : ℕ) (test : ℕ → Bool) → ((v : ℕ) → v < n → test v ≡ false) → any_below n test ≡ false
unfolding any_below
none_passes zero test none = refl
none_passes (suc n) test none = any_next n test (none n (omega arith)) (none_passes n test (λ v less. none v (omega arith)))

-- one that passes
pub one_passes : (n : ℕ) (test : ℕ → Bool) → any_below n test ≡ true → (v : ℕ) × (v < n) × (test v ≡ true)
unfolding any_below
one_passes zero test any = absurd (let no = any in cc)
one_passes (suc n) test any = either (test n) refl (one_passes n test)
  where
    either : (b : Bool) → test n ≡ b → (any_below n test ≡ true → (v : ℕ) × (v < n) × (test v ≡ true)) → (v : ℕ) × (v < suc n) × (test v ≡ true)
    either true is rest = (n, (omega arith), is)
    either false is rest =
        let r = rest (ap (λ b. b || any_below n test) (sym is) ∙ any) in
        let less = r.1 in
        (r.0, (omega arith), r.2)
