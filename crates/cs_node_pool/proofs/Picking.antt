-- The places of the sessions that pass a test, and how a set of them changes with one place.
use Rattle.std.proofs.Common.{◌≡◌, ℕ, zero, suc, ◌+◌, Bool, true, false, cond, ◌||◌, not, List, [], ◌∷◌, Option, Some, None, length, map, slice_get, take, refl, ap, sym, subst, ◌∙◌, arith}
use Rattle.std.specs.Map.{values_of}
use Rattle.std.specs.List.{list_any, filter, AllByRecursion}
use Rattle.std.specs.List.Sorted.{IsStrictlySortedBy}
use Rattle.std.specs.Ordering.{nat_cmp}
use Rattle.std.specs.BTreeMap.{is_at}
use Rattle.std.specs.BTreeSet.{BTreeSet, contains}
use Rattle.std.specs.BTreeSet as set
use Rattle.std.specs.Cmp.{nat_cmp_total}
use Rattle.std.specs.declared.cmp.Ordering.TheVariants.{Less}
use Rattle.std.proofs.lemmas.List.Sums.{length-filter}
use Rattle.std.proofs.lemmas.Map.Lookups.{btree_set_from_contains, exact_unsigned}
use Rattle.cs_ledger.specs.Ledger.{Bytes}
use Rattle.cs_node_state.specs.declared.pooled.Pooled.{Pooled}
use Rattle.cs_node_state.specs.Pool.{waiting_count}
use Rattle.cs_node_pool.specs.declared.seat.Seat.{Seat}
use Rattle.cs_node_pool.specs.Seats.{Seats, with_place, seated, seat_of_place, passes, first_passing, IsPicked, IsMarked, waits}
use Rattle.cs_node_pool.proofs.Places.{same-at, place-taken}

-- ---- a change at one place

abbrev pub Marked : BTreeSet ℕ → ℕ → Bool → BTreeSet ℕ → Type 0
Marked chosen n b next = IsMarked n b chosen next × set.IsOrdered nat_cmp next

module _ (test : Seat → Bool) (chosen next : BTreeSet ℕ) (old new : Seats) (n : ℕ) (w : Option Seat)
    (was : IsPicked test chosen old) (stood : (q : ℕ) → seat_of_place q new ≡ cond (is_at (nat_cmp n) q) w (seat_of_place q old)) where
  picked-at : (q : ℕ) (b : Bool) → cond b (passes test w) (contains nat_cmp chosen q) ≡ passes test (cond b w (seat_of_place q old))
  picked-at q true = refl
  picked-at q false = was.has q

  -- the set has the place where what is there passes now
  pub picked-marked : (b : Bool) → b ≡ passes test w → Marked chosen n b next → IsPicked test next new
  picked-marked b is marked = record {
    rising = marked.1;
    has = λ q. marked.0 q ∙ ap (λ x. cond (is_at (nat_cmp n) q) x (contains nat_cmp chosen q)) is ∙ picked-at q (is_at (nat_cmp n) q) ∙ ap (passes test) (sym (stood q));
  }

  -- it stays where the test says the same of what is there now
  pub picked-same : passes test w ≡ passes test (seat_of_place n old) → IsPicked test chosen new
  picked-same same = record {
    rising = was.rising;
    has = λ q. by q (is_at (nat_cmp n) q) refl ∙ ap (passes test) (sym (stood q));
  }
    where
      by : (q : ℕ) (b : Bool) → is_at (nat_cmp n) q ≡ b → contains nat_cmp chosen q ≡ passes test (cond b w (seat_of_place q old))
      by q true t = was.has q ∙ ap (λ m. passes test (seat_of_place m old)) (sym (same-at n q t)) ∙ sym same
      by q false t = was.has q

-- a set with no place has those of no seats
pub picked-none : (test : Seat → Bool) (chosen : BTreeSet ℕ) → chosen.keys ≡ [] → set.IsOrdered nat_cmp chosen → IsPicked test chosen []
picked-none test chosen none rising = record { rising = rising; has = λ q. ap (list_any (is_at (nat_cmp q))) none }

-- one more of the places is looked at
pub picked-more : (test : Seat → Bool) (chosen next : BTreeSet ℕ) (seats : Seats) (n : ℕ) (place : Option Seat) → slice_get (values_of seats) n ≡ Some place
    → IsPicked test chosen (take n seats) → (b : Bool) → b ≡ passes test place → Marked chosen n b next → IsPicked test next (take (n + 1) seats)
picked-more test chosen next seats n place got was b is marked =
    picked-marked test chosen next (take n seats) (take (n + 1) seats) n place was (place-taken seats n place got) b is marked

-- ---- the places in their order

abbrev pub picked : (Seat → Bool) → Seats → List ℕ
picked test [] = []
picked test (e ∷ seats) = cond (passes test e.1) (0 ∷ map (λ n. suc n) (picked test seats)) (map (λ n. suc n) (picked test seats))

abbrev pub next : List ℕ → List ℕ
next ns = map (λ n. suc n) ns

any-zero : (ns : List ℕ) → list_any (is_at (nat_cmp 0)) (next ns) ≡ false
any-zero [] = refl
any-zero (n ∷ ns) =
    let no : is_at (nat_cmp 0) (suc n) ≡ false = grind arith in
    ap (λ b. b || list_any (is_at (nat_cmp 0)) (next ns)) no ∙ any-zero ns

at-next : (q n : ℕ) → is_at (nat_cmp (suc q)) (suc n) ≡ is_at (nat_cmp q) n
at-next q n = grind arith

any-next : (q : ℕ) (ns : List ℕ) → list_any (is_at (nat_cmp (suc q))) (next ns) ≡ list_any (is_at (nat_cmp q)) ns
any-next q [] = refl
any-next q (n ∷ ns) = λ i. at-next q n i || any-next q ns i

module _ (test : Seat → Bool) where
  picked-has : (seats : Seats) (q : ℕ) → list_any (is_at (nat_cmp q)) (picked test seats) ≡ passes test (seat_of_place q seats)
  picked-has [] q = refl
  picked-has (e ∷ seats) zero = by (passes test e.1)
    where
      here : is_at (nat_cmp 0) 0 ≡ true
      here = grind arith

      by : (b : Bool) → list_any (is_at (nat_cmp 0)) (cond b (0 ∷ next (picked test seats)) (next (picked test seats))) ≡ b
      by true = ap (λ b. b || list_any (is_at (nat_cmp 0)) (next (picked test seats))) here
      by false = any-zero (picked test seats)
  picked-has (e ∷ seats) (suc q) = by (passes test e.1) ∙ any-next q (picked test seats) ∙ picked-has seats q
    where
      no : is_at (nat_cmp (suc q)) 0 ≡ false
      no = grind arith

      by : (b : Bool) → list_any (is_at (nat_cmp (suc q))) (cond b (0 ∷ next (picked test seats)) (next (picked test seats))) ≡ list_any (is_at (nat_cmp (suc q))) (next (picked test seats))
      by true = ap (λ b. b || list_any (is_at (nat_cmp (suc q))) (next (picked test seats))) no
      by false = refl

  above-zero : (ns : List ℕ) → AllByRecursion (λ y. nat_cmp 0 y ≡ Less) (next ns)
  above-zero [] = tt
  above-zero (n ∷ ns) = (grind arith, above-zero ns)

  less-next : (m n : ℕ) → nat_cmp m n ≡ Less → nat_cmp (suc m) (suc n) ≡ Less
  less-next m n h = grind (arith, h)

  above-next : (m : ℕ) (ns : List ℕ) → AllByRecursion (λ y. nat_cmp m y ≡ Less) ns → AllByRecursion (λ y. nat_cmp (suc m) y ≡ Less) (next ns)
  above-next m [] a = tt
  above-next m (n ∷ ns) a = (less-next m n a.0, above-next m ns a.1)

  rising-next : (ns : List ℕ) → IsStrictlySortedBy nat_cmp ns → IsStrictlySortedBy nat_cmp (next ns)
  unfolding IsStrictlySortedBy
  rising-next [] s = tt
  rising-next (n ∷ ns) s = (above-next n ns s.0, rising-next ns s.1)

  picked-rising : (seats : Seats) → IsStrictlySortedBy nat_cmp (picked test seats)
  unfolding IsStrictlySortedBy
  picked-rising [] = tt
  picked-rising (e ∷ seats) =
      let rest : IsStrictlySortedBy nat_cmp (next (picked test seats)) = rising-next (picked test seats) (picked-rising seats) in
      elim (passes test e.1) as (λ b. IsStrictlySortedBy nat_cmp (cond b (0 ∷ next (picked test seats)) (next (picked test seats)))) [ true ↦ (above-zero (picked test seats), rest) | false ↦ rest ]

  pub picked-is : (chosen : BTreeSet ℕ) (seats : Seats) → IsPicked test chosen seats → chosen.keys ≡ picked test seats
  picked-is chosen seats was =
      let made : BTreeSet ℕ = record { keys = picked test seats } in
      btree_set_from_contains nat_cmp_total chosen made was.rising (picked-rising seats) (λ q. was.has q ∙ sym (picked-has seats q)) exact_unsigned

length-next : (ns : List ℕ) → length (next ns) ≡ length ns
length-next [] = refl
length-next (n ∷ ns) = ap (λ m. suc m) (length-next ns)

abbrev unlocked : Pooled → Bool
unlocked p = not p.locked

abbrev unlocked_in : Seats → List Pooled
unlocked_in seats = filter unlocked (values_of (seated seats))

counts-here : (seats : Seats) (p : Pooled) (b : Bool) → length (next (picked waits seats)) ≡ length (unlocked_in seats)
    → length (cond b (0 ∷ next (picked waits seats)) (next (picked waits seats))) ≡ length (cond b (p ∷ unlocked_in seats) (unlocked_in seats))
counts-here seats p true rest = ap (λ n. suc n) rest
counts-here seats p false rest = rest

counts-place : (seats : Seats) (d : Bytes) (place : Option Seat) → length (next (picked waits seats)) ≡ length (unlocked_in seats)
    → length (cond (passes waits place) (0 ∷ next (picked waits seats)) (next (picked waits seats))) ≡ length (filter unlocked (values_of (with_place d place (seated seats))))
counts-place seats d None rest = rest
counts-place seats d (Some seat) rest = counts-here seats seat.pooled (waits seat) rest

passing : (seats : Seats) → length (picked waits seats) ≡ length (unlocked_in seats)
passing [] = refl
passing (e ∷ seats) = counts-place seats e.0 e.1 (length-next (picked waits seats) ∙ passing seats)

picked-count : (seats : Seats) → length (picked waits seats) ≡ waiting_count (seated seats)
picked-count seats = passing seats ∙ length-filter unlocked (values_of (seated seats))

-- how many wait
pub waiting-count : (chosen : BTreeSet ℕ) (seats : Seats) → IsPicked waits chosen seats → length chosen.keys ≡ waiting_count (seated seats)
waiting-count chosen seats was = ap length (picked-is waits chosen seats was) ∙ picked-count seats

-- ---- the first of them

-- what is at a place is the first that passes
abbrev pub Leads : (Seat → Bool) → ℕ → Seats → Type 0
Leads test n seats = first_passing test seats ≡ seat_of_place n seats

record Before (ns : List ℕ) (n : ℕ) : Type 0 where
  before : ℕ
  is : n ≡ suc before
  first : slice_get ns 0 ≡ Some before

before : (ns : List ℕ) (n : ℕ) → slice_get (next ns) 0 ≡ Some n → Before ns n
before [] n h = let q : ◌≡◌ {A = Option ℕ} None (Some n) = h in absurd cc
before (m ∷ ns) n h = let q : ◌≡◌ {A = Option ℕ} (Some (suc m)) (Some n) = h in let same : suc m ≡ n = cc in record { before = m; is = sym same; first = refl }

no-next : (ns : List ℕ) → next ns ≡ [] → ns ≡ []
no-next [] h = refl
no-next (n ∷ ns) h = let q : suc n ∷ next ns ≡ [] = h in cc

module _ (test : Seat → Bool) where
  none-picked : (seats : Seats) → picked test seats ≡ [] → first_passing test seats ≡ None
  none-picked [] is = refl
  none-picked (e ∷ seats) is = by (passes test e.1) refl is (none-picked seats)
    where
      by : (b : Bool) → passes test e.1 ≡ b → cond b (0 ∷ next (picked test seats)) (next (picked test seats)) ≡ [] → (picked test seats ≡ [] → first_passing test seats ≡ None)
          → first_passing test (e ∷ seats) ≡ None
      by true t none rest = let q : 0 ∷ next (picked test seats) ≡ [] = none in cc
      by false t none rest = ap (λ b. cond b e.1 (first_passing test seats)) t ∙ rest (no-next (picked test seats) none)

  leads : (seats : Seats) (n : ℕ) → slice_get (picked test seats) 0 ≡ Some n → Leads test n seats
  leads [] n is = let q : ◌≡◌ {A = Option ℕ} None (Some n) = is in absurd cc
  leads (e ∷ seats) n is = by (passes test e.1) refl is (leads seats)
    where
      here : passes test e.1 ≡ true → Leads test 0 (e ∷ seats)
      here t = ap (λ b. cond b e.1 (first_passing test seats)) t

      later : passes test e.1 ≡ false → (m : ℕ) → Leads test m seats → Leads test (suc m) (e ∷ seats)
      later t m rest = ap (λ b. cond b e.1 (first_passing test seats)) t ∙ rest

      by : (b : Bool) → passes test e.1 ≡ b → slice_get (cond b (0 ∷ next (picked test seats)) (next (picked test seats))) 0 ≡ Some n → ((m : ℕ) → slice_get (picked test seats) 0 ≡ Some m → Leads test m seats)
          → Leads test n (e ∷ seats)
      by true t first rest =
          let q : ◌≡◌ {A = Option ℕ} (Some 0) (Some n) = first in
          let same : 0 ≡ n = cc in
          subst (λ m. Leads test m (e ∷ seats)) same (here t)
      by false t first rest =
          let b : Before (picked test seats) n = before (picked test seats) n first in
          subst (λ m. Leads test m (e ∷ seats)) (sym b.is) (later t b.before (rest b.before b.first))

  pub first-picked : (chosen : BTreeSet ℕ) (seats : Seats) → IsPicked test chosen seats → (n : ℕ) → slice_get chosen.keys 0 ≡ Some n → Leads test n seats
  first-picked chosen seats was n first = leads seats n (sym (ap (λ ns. slice_get ns 0) (picked-is test chosen seats was)) ∙ first)

  pub none-passes : (chosen : BTreeSet ℕ) (seats : Seats) → IsPicked test chosen seats → chosen.keys ≡ [] → first_passing test seats ≡ None
  none-passes chosen seats was none = none-picked seats (sym (picked-is test chosen seats was) ∙ none)
