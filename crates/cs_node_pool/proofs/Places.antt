-- What stands at a place is found by its digest, and what is done there is done to its session.
use Rattle.std.proofs.Common.{◌≡◌, ℕ, zero, suc, Bool, true, false, cond, ◌+◌, [], ◌∷◌, ◌++◌, Option, Some, None, length, take, position, slice_get, bytes_eq, refl, ap, sym, ◌∙◌, arith}
use Rattle.std.specs.Cmp.{IsEquivalence}
use Rattle.std.specs.List.{IsDistinct}
use Rattle.std.specs.Map.{lookup, set_value, keys_of, values_of}
use Rattle.std.specs.Ordering.{nat_cmp}
use Rattle.std.specs.BTreeMap.{is_at}
use Rattle.std.specs.Cmp.{nat_cmp_total, eq_by_cmp_equiv}
use Rattle.std.proofs.lemmas.Cmp.{nat_list_eq_equiv}
use Rattle.std.proofs.lemmas.Map.{lookup-none}
use Rattle.std.proofs.lemmas.Map.Entries.{none_past_head}
use Rattle.std.proofs.lemmas.Map.Keys.{IsDistinct-tail}
use Rattle.indexmap.specs.IndexMap.{set_value_at}
use Rattle.indexmap.proofs.MapLemmas.{Found-position, Missing-position, index-first}
use Rattle.cs_ledger.specs.Ledger.{Bytes}
use Rattle.cs_node_state.specs.declared.pooled.Pooled.{Pooled}
use Rattle.cs_node_state.specs.Pool.{Pool, found, without_session, pool_changed, changed_at}
use Rattle.cs_node_pool.specs.declared.seat.Seat.{Seat}
use Rattle.cs_node_pool.specs.Seats.{Seats, pooled_in, with_place, seated, seat_of_place, reseated}

bytes_equiv : IsEquivalence bytes_eq
bytes_equiv = nat_list_eq_equiv

-- a choice whose first branch is something, and which is nothing
second : {A : Type 0} (b : Bool) (x : A) (rest : Option A) → cond b (Some x) rest ≡ None → b ≡ false
second true x rest h = let q : Some x ≡ None = h in cc
second false x rest h = refl

-- ---- the place of a digest

-- the first of the digests that is this one stands at the place
abbrev pub At : Bytes → Seats → ℕ → Type 0
At d [] n = ⊥
At d (e ∷ seats) zero = bytes_eq d e.0 ≡ true
At d (e ∷ seats) (suc n) = (bytes_eq d e.0 ≡ false) × At d seats n

pub at-first : (d : Bytes) (seats : Seats) (n : ℕ) → position (bytes_eq d) (keys_of seats) ≡ Some n → At d seats n
at-first d [] n p = (Found-position {K = Bytes} {X = Option Seat} (bytes_eq d) [] n p).first
at-first d (e ∷ seats) zero p = (Found-position {K = Bytes} {X = Option Seat} (bytes_eq d) (e ∷ seats) zero p).first
at-first d (e ∷ seats) (suc n) p =
    let first = (Found-position {K = Bytes} {X = Option Seat} (bytes_eq d) (e ∷ seats) (suc n) p).first in
    (first.0, at-first d seats n (index-first {K = Bytes} {X = Option Seat} (bytes_eq d) seats n first.1))

-- ---- what is found

skips : (d k : Bytes) (place : Option Seat) (pool : Pool) → bytes_eq d k ≡ false → found d (with_place k place pool) ≡ found d pool
skips d k None pool other = refl
skips d k (Some seat) pool other = ap (λ b. cond b (Some seat.pooled) (found d pool)) other

-- a digest that has no place isn't found
pub not-there : (d : Bytes) (seats : Seats) → lookup (bytes_eq d) seats ≡ None → found d (seated seats) ≡ None
not-there d [] h = refl
not-there d (e ∷ seats) h =
    let other : bytes_eq d e.0 ≡ false = second (bytes_eq d e.0) e.1 (lookup (bytes_eq d) seats) h in
    skips d e.0 e.1 (seated seats) other ∙ not-there d seats (sym (ap (λ b. cond b (Some e.1) (lookup (bytes_eq d) seats)) other) ∙ h)

pub absent : (d : Bytes) (seats : Seats) → position (bytes_eq d) (keys_of seats) ≡ None → found d (seated seats) ≡ None
absent d seats p = not-there d seats (Missing-position {K = Bytes} {X = Option Seat} (bytes_eq d) seats p).value

past-here : (d : Bytes) (e : Bytes × Option Seat) (seats : Seats) → IsDistinct bytes_eq (keys_of (e ∷ seats)) → bytes_eq d e.0 ≡ true → found d (seated seats) ≡ None
past-here d e seats distinct here = not-there d seats (lookup-none (bytes_eq d) seats (none_past_head bytes_equiv d e seats distinct here))

pub found-at : (d : Bytes) (seats : Seats) (n : ℕ) → IsDistinct bytes_eq (keys_of seats) → At d seats n → found d (seated seats) ≡ pooled_in (seat_of_place n seats)
found-at d [] n distinct at = absurd at
found-at d (e ∷ seats) zero distinct at = by e.1 (past-here d e seats distinct at)
  where
    by : (place : Option Seat) → found d (seated seats) ≡ None → found d (with_place e.0 place (seated seats)) ≡ pooled_in place
    by None none = none
    by (Some seat) none = ap (λ b. cond b (Some seat.pooled) (found d (seated seats))) at
found-at d (e ∷ seats) (suc n) distinct at =
    skips d e.0 e.1 (seated seats) at.0 ∙ found-at d seats n (IsDistinct-tail bytes_eq e.0 (keys_of seats) distinct) at.1

-- what a look-up gives is what is found
pub found-lookup : (d : Bytes) (seats : Seats) → IsDistinct bytes_eq (keys_of seats) → (place : Option Seat) → lookup (bytes_eq d) seats ≡ Some place → found d (seated seats) ≡ pooled_in place
found-lookup d [] distinct place is = let q : ◌≡◌ {A = Option (Option Seat)} None (Some place) = is in absurd cc
found-lookup d (e ∷ seats) distinct place is = by (bytes_eq d e.0) refl (found-lookup d seats (IsDistinct-tail bytes_eq e.0 (keys_of seats) distinct) place)
  where
    here : (p : Option Seat) → bytes_eq d e.0 ≡ true → found d (seated seats) ≡ None → found d (with_place e.0 p (seated seats)) ≡ pooled_in p
    here None t none = none
    here (Some seat) t none = ap (λ b. cond b (Some seat.pooled) (found d (seated seats))) t

    by : (b : Bool) → bytes_eq d e.0 ≡ b → (lookup (bytes_eq d) seats ≡ Some place → found d (seated seats) ≡ pooled_in place) → found d (with_place e.0 e.1 (seated seats)) ≡ pooled_in place
    by true t rest =
        let q : ◌≡◌ {A = Option (Option Seat)} (Some e.1) (Some place) = sym (ap (λ b. cond b (Some e.1) (lookup (bytes_eq d) seats)) t) ∙ is in
        let same : e.1 ≡ place = cc in
        here e.1 t (past-here d e seats distinct t) ∙ ap pooled_in same
    by false t rest = skips d e.0 e.1 (seated seats) t ∙ rest (sym (ap (λ b. cond b (Some e.1) (lookup (bytes_eq d) seats)) t) ∙ is)

-- ---- a session changes

-- nothing is done to what isn't found
pub unchanged : (d : Bytes) (change : Pooled → Pooled) (pool : Pool) → found d pool ≡ None → pool ≡ pool_changed d change pool
unchanged d change pool none = sym (ap (changed_at d change pool) none)

module _ (f : ℕ) (change : Pooled → Pooled) (d : Bytes) where
  set-behind : (k : Bytes) (place : Option Seat) (pool rest : Pool) (o : Option Pooled) → bytes_eq d k ≡ false → rest ≡ changed_at d change pool o
      → with_place k place rest ≡ changed_at d change (with_place k place pool) o
  set-behind k None pool rest o other is = is
  set-behind k (Some seat) pool rest None other is = ap (λ xs. (k, seat.pooled) ∷ xs) is
  set-behind k (Some seat) pool rest (Some p) other is =
      ap (λ xs. (k, seat.pooled) ∷ xs) is
      ∙ sym (ap (λ b. cond b ((k, change p) ∷ pool) ((k, seat.pooled) ∷ set_value (bytes_eq d) pool (change p))) other)

  set-here : (k : Bytes) (place : Option Seat) (pool : Pool) → bytes_eq d k ≡ true
      → with_place k (reseated f change place) pool ≡ changed_at d change (with_place k place pool) (pooled_in place)
  set-here k None pool here = refl
  set-here k (Some seat) pool here =
      sym (ap (λ b. cond b ((k, change seat.pooled) ∷ pool) ((k, seat.pooled) ∷ set_value (bytes_eq d) pool (change seat.pooled))) here)

  set-at : (seats : Seats) (n : ℕ) → At d seats n
      → seated (set_value_at seats n (reseated f change (seat_of_place n seats))) ≡ changed_at d change (seated seats) (pooled_in (seat_of_place n seats))
  set-at [] n at = absurd at
  set-at (e ∷ seats) zero at = set-here e.0 e.1 (seated seats) at
  set-at (e ∷ seats) (suc n) at = set-behind e.0 e.1 (seated seats) _ (pooled_in (seat_of_place n seats)) at.0 (set-at seats n at.1)

  pub seated-changed : (seats : Seats) (n : ℕ) → IsDistinct bytes_eq (keys_of seats) → At d seats n
      → seated (set_value_at seats n (reseated f change (seat_of_place n seats))) ≡ pool_changed d change (seated seats)
  seated-changed seats n distinct at = set-at seats n at ∙ ap (changed_at d change (seated seats)) (sym (found-at d seats n distinct at))

-- ---- a session leaves

-- without one that isn't found, a pool is as it was
pub without-none : (d : Bytes) (pool : Pool) → found d pool ≡ None → without_session d pool ≡ pool
without-none d [] h = refl
without-none d (e ∷ pool) h =
    let b : bytes_eq d e.0 ≡ false = second (bytes_eq d e.0) e.1 (found d pool) h in
    ap (λ c. cond c pool (e ∷ without_session d pool)) b ∙ ap (λ xs. e ∷ xs) (without-none d pool (sym (ap (λ c. cond c (Some e.1) (found d pool)) b) ∙ h))

without-behind : (d k : Bytes) (place : Option Seat) (pool : Pool) → bytes_eq d k ≡ false → with_place k place (without_session d pool) ≡ without_session d (with_place k place pool)
without-behind d k None pool other = refl
without-behind d k (Some seat) pool other = sym (ap (λ b. cond b pool ((k, seat.pooled) ∷ without_session d pool)) other)

without-here : (d k : Bytes) (place : Option Seat) (pool : Pool) → bytes_eq d k ≡ true → found d pool ≡ None → pool ≡ without_session d (with_place k place pool)
without-here d k None pool here none = sym (without-none d pool none)
without-here d k (Some seat) pool here none = sym (ap (λ b. cond b pool ((k, seat.pooled) ∷ without_session d pool)) here)

pub seated-left : (d : Bytes) (seats : Seats) (n : ℕ) → IsDistinct bytes_eq (keys_of seats) → At d seats n → seated (set_value_at seats n None) ≡ without_session d (seated seats)
seated-left d [] n distinct at = absurd at
seated-left d (e ∷ seats) zero distinct at = without-here d e.0 e.1 (seated seats) at (past-here d e seats distinct at)
seated-left d (e ∷ seats) (suc n) distinct at =
    ap (with_place e.0 e.1) (seated-left d seats n (IsDistinct-tail bytes_eq e.0 (keys_of seats) distinct) at.1)
    ∙ without-behind d e.0 e.1 (seated seats) at.0

-- ---- a session enters

behind : (k : Bytes) (place : Option Seat) (pool : Pool) (e : Bytes × Pooled) → with_place k place (pool ++ e ∷ []) ≡ with_place k place pool ++ e ∷ []
behind k None pool e = refl
behind k (Some seat) pool e = refl

pub seated-pushed : (seats : Seats) (d : Bytes) (seat : Seat) → seated (seats ++ (d, Some seat) ∷ []) ≡ seated seats ++ (d, seat.pooled) ∷ []
seated-pushed [] d seat = refl
seated-pushed (e ∷ seats) d seat = ap (with_place e.0 e.1) (seated-pushed seats d seat) ∙ behind e.0 e.1 (seated seats) (d, seat.pooled)

-- ---- what is at a place

pub place-got : (seats : Seats) (n : ℕ) (place : Option Seat) → slice_get (values_of seats) n ≡ Some place → seat_of_place n seats ≡ place
place-got [] n place h = let q : ◌≡◌ {A = Option (Option Seat)} None (Some place) = h in absurd cc
place-got (e ∷ seats) zero place h = let q : ◌≡◌ {A = Option (Option Seat)} (Some e.1) (Some place) = h in cc
place-got (e ∷ seats) (suc n) place h = place-got seats n place h

pub entry-got : (seats : Seats) (n : ℕ) (k : Bytes) (place : Option Seat) → slice_get seats n ≡ Some (k, place) → seat_of_place n seats ≡ place
entry-got [] n k place h = let q : ◌≡◌ {A = Option (Bytes × Option Seat)} None (Some (k, place)) = h in absurd cc
entry-got (e ∷ seats) zero k place h =
    let q : ◌≡◌ {A = Option (Bytes × Option Seat)} (Some e) (Some (k, place)) = h in
    let same : e ≡ (k, place) = cc in
    ap (λ (x : Bytes × Option Seat). x.1) same
entry-got (e ∷ seats) (suc n) k place h = entry-got seats n k place h

pub entry-past : (seats : Seats) (n : ℕ) → slice_get seats n ≡ None → seat_of_place n seats ≡ None
entry-past [] n h = refl
entry-past (e ∷ seats) zero h = let q : ◌≡◌ {A = Option (Bytes × Option Seat)} (Some e) None = h in absurd cc
entry-past (e ∷ seats) (suc n) h = entry-past seats n h

pub same-at : (n q : ℕ) → is_at (nat_cmp n) q ≡ true → n ≡ q
same-at n q h = grind (arith, h)

here-at : (n : ℕ) → is_at (nat_cmp n) n ≡ true
here-at n = (eq_by_cmp_equiv nat_cmp_total).refl n

other-at : (n q : ℕ) → is_at (nat_cmp n) q ≡ false → n ≡ q → ⊥
other-at n q h same = let r : true ≡ false = sym (here-at n) ∙ ap (λ m. is_at (nat_cmp n) m) same ∙ h in cc

-- one place is as it is told, the others as they were
module _ (n : ℕ) (w : Option Seat) (old new : Seats) (here : seat_of_place n new ≡ w) (others : (q : ℕ) → (n ≡ q → ⊥) → seat_of_place q new ≡ seat_of_place q old) where
  by-place : (q : ℕ) (b : Bool) → is_at (nat_cmp n) q ≡ b → seat_of_place q new ≡ cond b w (seat_of_place q old)
  by-place q true t = ap (λ m. seat_of_place m new) (sym (same-at n q t)) ∙ here
  by-place q false t = others q (other-at n q t)

  one-place : (q : ℕ) → seat_of_place q new ≡ cond (is_at (nat_cmp n) q) w (seat_of_place q old)
  one-place q = by-place q (is_at (nat_cmp n) q) refl

set-same : (d : Bytes) (seats : Seats) (n : ℕ) (w : Option Seat) → At d seats n → seat_of_place n (set_value_at seats n w) ≡ w
set-same d [] n w at = absurd at
set-same d (e ∷ seats) zero w at = refl
set-same d (e ∷ seats) (suc n) w at = set-same d seats n w at.1

set-other : (seats : Seats) (n : ℕ) (w : Option Seat) (q : ℕ) → (n ≡ q → ⊥) → seat_of_place q (set_value_at seats n w) ≡ seat_of_place q seats
set-other [] n w q other = refl
set-other (e ∷ seats) zero w zero other = absurd (other refl)
set-other (e ∷ seats) zero w (suc q) other = refl
set-other (e ∷ seats) (suc n) w zero other = refl
set-other (e ∷ seats) (suc n) w (suc q) other = set-other seats n w q (λ same. other (ap (λ m. suc m) same))

-- what is there is written again
pub set-still : (seats : Seats) (n : ℕ) → set_value_at seats n (seat_of_place n seats) ≡ seats
set-still [] n = refl
set-still (e ∷ seats) zero = refl
set-still (e ∷ seats) (suc n) = ap (λ xs. e ∷ xs) (set-still seats n)

pub place-set : (d : Bytes) (seats : Seats) (n : ℕ) (w : Option Seat) → At d seats n → (q : ℕ) → seat_of_place q (set_value_at seats n w) ≡ cond (is_at (nat_cmp n) q) w (seat_of_place q seats)
place-set d seats n w at = one-place n w seats (set_value_at seats n w) (set-same d seats n w at) (set-other seats n w)

push-same : (seats : Seats) (e : Bytes × Option Seat) → seat_of_place (length seats) (seats ++ e ∷ []) ≡ e.1
push-same [] e = refl
push-same (x ∷ seats) e = push-same seats e

push-other : (seats : Seats) (e : Bytes × Option Seat) (q : ℕ) → (length seats ≡ q → ⊥) → seat_of_place q (seats ++ e ∷ []) ≡ seat_of_place q seats
push-other [] e zero other = absurd (other refl)
push-other [] e (suc q) other = refl
push-other (x ∷ seats) e zero other = refl
push-other (x ∷ seats) e (suc q) other = push-other seats e q (λ same. other (ap (λ m. suc m) same))

pub place-pushed : (seats : Seats) (e : Bytes × Option Seat) (q : ℕ) → seat_of_place q (seats ++ e ∷ []) ≡ cond (is_at (nat_cmp (length seats)) q) e.1 (seat_of_place q seats)
place-pushed seats e = one-place (length seats) e.1 seats (seats ++ e ∷ []) (push-same seats e) (push-other seats e)

-- ---- the first places

none-taken : (seats : Seats) (q : ℕ) → seat_of_place q (take 0 seats) ≡ None
none-taken [] q = refl
none-taken (e ∷ seats) q = refl

take-same : (seats : Seats) (n : ℕ) (place : Option Seat) → slice_get (values_of seats) n ≡ Some place → seat_of_place n (take (suc n) seats) ≡ place
take-same [] n place h = let q : ◌≡◌ {A = Option (Option Seat)} None (Some place) = h in absurd cc
take-same (e ∷ seats) zero place h = let q : ◌≡◌ {A = Option (Option Seat)} (Some e.1) (Some place) = h in cc
take-same (e ∷ seats) (suc n) place h = take-same seats n place h

take-other : (seats : Seats) (n q : ℕ) → (n ≡ q → ⊥) → seat_of_place q (take (suc n) seats) ≡ seat_of_place q (take n seats)
take-other [] zero q other = refl
take-other [] (suc n) q other = refl
take-other (e ∷ seats) zero zero other = absurd (other refl)
take-other (e ∷ seats) zero (suc q) other = none-taken seats q
take-other (e ∷ seats) (suc n) zero other = refl
take-other (e ∷ seats) (suc n) (suc q) other = take-other seats n q (λ same. other (ap (λ m. suc m) same))

pub place-taken : (seats : Seats) (n : ℕ) (place : Option Seat) → slice_get (values_of seats) n ≡ Some place
    → (q : ℕ) → seat_of_place q (take (n + 1) seats) ≡ cond (is_at (nat_cmp n) q) place (seat_of_place q (take n seats))
place-taken seats n place got q =
    let more : n + 1 ≡ suc n = omega arith in
    ap (λ m. seat_of_place q (take m seats)) more
    ∙ one-place n place (take n seats) (take (suc n) seats) (take-same seats n place got) (take-other seats n) q
