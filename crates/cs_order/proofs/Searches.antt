-- Counts and searches over the numbers below a bound, one number after another.
use Rattle.std.proofs.Common.{◌≡◌, ℕ, zero, suc, ◌+◌, ◌≤◌, ◌<◌, Bool, true, false, ◌||◌, if◌then◌else◌, Option, Some, None, inl, inr, refl, sym, ap, ap₂, ◌∙◌, arith, add-one}
use Rattle.std.proofs.lemmas.Bool.Decides.{eqb_tells}
use Rattle.std.specs.Option.{option_or}
use mir.Val.{bool_byte}
use Rattle.cs_order.specs.Counts.{count_below, any_below, first_below, last_found}
use Rattle.cs_base.specs.Options.{or_else}

pub count_none : (p : ℕ → Bool) → 0 ≡ count_below 0 p
unfolding count_below
count_none p = refl

count_by : (n : ℕ) (p : ℕ → Bool) (b : Bool) → p n ≡ b → count_below (n + 1) p ≡ (if b then 1 else 0) + count_below n p
unfolding count_below
count_by n p b is = rw add-one (ap (λ c. (if c then 1 else 0) + count_below n p) is)

added : (n count add : ℕ) (p : ℕ → Bool) (b : Bool) → p n ≡ b → add ≡ bool_byte b → count ≡ count_below n p → count ≤ n → (count + add ≡ count_below (n + 1) p) × (count + add ≤ n + 1)
added n count add p true is one so_far few = let more = count_by n p true is in let e : add ≡ 1 = one in (omega arith, omega arith)
added n count add p false is one so_far few = let more = count_by n p false is in let e : add ≡ 0 = one in (omega arith, omega arith)

pub count_add : (n count add : ℕ) (p : ℕ → Bool) (b : Bool) → b ≡ p n → add ≡ bool_byte b → count ≡ count_below n p → count ≤ n → (count + add ≡ count_below (n + 1) p) × (count + add ≤ n + 1)
count_add n count add p b is one so_far few = added n count add p b (sym is) one so_far few

-- the first that is found
pub first_none : {A : Type 0} (found : ℕ → Option A) → first_below 0 found ≡ None
unfolding first_below
first_none found = refl

first_step : {A : Type 0} (n : ℕ) (found : ℕ → Option A) → first_below (n + 1) found ≡ or_else (first_below n found) (found n)
unfolding first_below
first_step n found = rw add-one refl

-- nothing was found below, and nothing here
pub first_more : {A : Type 0} (n : ℕ) (found : ℕ → Option A) → first_below n found ≡ None → found n ≡ None → first_below (n + 1) found ≡ None
first_more n found before here = rw (first_step n found, before, here) refl

first_here : {A : Type 0} (n : ℕ) (found : ℕ → Option A) (x : A) → first_below n found ≡ None → found n ≡ Some x → first_below (n + 1) found ≡ Some x
first_here n found x before here = rw (first_step n found, before, here) refl

or_none : {A : Type 0} (o : Option A) → or_else o None ≡ o
or_none None = refl
or_none (Some x) = refl

or_some : {A : Type 0} (o p : Option A) (x : A) → o ≡ Some x → or_else o p ≡ Some x
or_some o p x e = rw e refl

-- what was found first stays
first_stays : {A : Type 0} (all n : ℕ) (found : ℕ → Option A) (x : A) → n ≤ all → first_below n found ≡ Some x → first_below all found ≡ Some x
unfolding first_below
first_stays zero n found x few h = let e : n ≡ 0 = omega arith in rw e at h
first_stays (suc all) n found x few h =
    elim (eqb_tells n (suc all)) [
      | inl same ↦ rw same.1 at h
      | inr other ↦ or_some (first_below all found) (found all) x (first_stays all n found x (let e = other.1 in omega arith) h)
    ]

-- nothing was found below, and something is here
pub first_at : {A : Type 0} (all n : ℕ) (found : ℕ → Option A) (x : A) → n < all → first_below n found ≡ None → found n ≡ Some x → first_below all found ≡ Some x
first_at all n found x less before here = first_stays all (n + 1) found x (omega arith) (first_here n found x before here)

-- where nothing is found from here on, the search may end
pub first_ends : {A : Type 0} (all n : ℕ) (found : ℕ → Option A) → n ≤ all → ((k : ℕ) → n ≤ k → k < all → found k ≡ None) → first_below all found ≡ first_below n found
unfolding first_below
first_ends zero n found few none = let e : n ≡ 0 = omega arith in rw e refl
first_ends (suc all) n found few none =
    elim (eqb_tells n (suc all)) [
      | inl same ↦ rw same.1 refl
      | inr other ↦
          let less : n ≤ all = (let e = other.1 in omega arith) in
          ap (λ o. or_else (first_below all found) o) (none all less (omega arith)) ∙ or_none (first_below all found) ∙ first_ends all n found less (λ k a b. none k a (omega arith))
    ]

-- the last that is found
pub last_none : {A : Type 0} (found : ℕ → Option A) → None ≡ last_found 0 found
unfolding last_found
last_none found = refl

last_step : {A : Type 0} (n : ℕ) (found : ℕ → Option A) → last_found (n + 1) found ≡ or_else (found n) (last_found n found)
unfolding last_found
last_step n found = rw add-one refl

same_or : {A : Type 0} (a b : Option A) → option_or a b ≡ or_else a b
same_or None b = refl
same_or (Some x) b = refl

pub last_more : {A : Type 0} (n : ℕ) (found : ℕ → Option A) (last here now : Option A) → last ≡ last_found n found → here ≡ found n → now ≡ option_or here last → now ≡ last_found (n + 1) found
last_more n found last here now before is e = e ∙ same_or here last ∙ ap₂ or_else is before ∙ sym (last_step n found)

pub last_ends : {A : Type 0} (all n : ℕ) (found : ℕ → Option A) → n ≤ all → ((k : ℕ) → n ≤ k → k < all → found k ≡ None) → last_found all found ≡ last_found n found
unfolding last_found
last_ends zero n found few none = let e : n ≡ 0 = omega arith in rw e refl
last_ends (suc all) n found few none =
    elim (eqb_tells n (suc all)) [
      | inl same ↦ rw same.1 refl
      | inr other ↦
          let less : n ≤ all = (let e = other.1 in omega arith) in
          ap (λ o. or_else o (last_found all found)) (none all less (omega arith)) ∙ last_ends all n found less (λ k a b. none k a (omega arith))
    ]

-- one that passes
pub any_none : (test : ℕ → Bool) → any_below 0 test ≡ false
unfolding any_below
any_none test = refl

any_step : (n : ℕ) (test : ℕ → Bool) → any_below (n + 1) test ≡ (test n || any_below n test)
unfolding any_below
any_step n test = rw add-one refl

pub any_more : (n : ℕ) (test : ℕ → Bool) → any_below n test ≡ false → test n ≡ false → any_below (n + 1) test ≡ false
any_more n test before here = rw (any_step n test, here) before

any_here : (n : ℕ) (test : ℕ → Bool) → test n ≡ true → any_below (n + 1) test ≡ true
any_here n test here = rw (any_step n test, here) refl

or_true : (a b : Bool) → b ≡ true → (a || b) ≡ true
or_true true b h = refl
or_true false b h = h

any_stays : (all n : ℕ) (test : ℕ → Bool) → n ≤ all → any_below n test ≡ true → any_below all test ≡ true
unfolding any_below
any_stays zero n test few h = let e : n ≡ 0 = omega arith in rw e at h
any_stays (suc all) n test few h =
    elim (eqb_tells n (suc all)) [
      | inl same ↦ rw same.1 at h
      | inr other ↦ or_true (test all) (any_below all test) (any_stays all n test (let e = other.1 in omega arith) h)
    ]

pub any_at : (all n : ℕ) (test : ℕ → Bool) → n < all → test n ≡ true → any_below all test ≡ true
any_at all n test less here = any_stays all (n + 1) test (omega arith) (any_here n test here)
