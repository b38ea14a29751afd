-- How many sessions a pool has, and what stays when its gaps are closed.
use Rattle.std.proofs.Common.{◌≡◌, ℕ, zero, suc, ◌+◌, ◌≤◌, Bool, true, false, cond, if◌then◌else◌, [], ◌∷◌, ◌++◌, Option, Some, None, is_some, length, bytes_eq, refl, ap, sym, ◌∙◌, arith}
use Rattle.std.specs.Map.{lookup}
use Rattle.indexmap.specs.IndexMap.{set_value_at}
use Rattle.cs_ledger.specs.Ledger.{Bytes}
use Rattle.cs_node_state.specs.declared.pooled.Pooled.{Pooled}
use Rattle.cs_node_state.specs.Pool.{found}
use Rattle.cs_node_pool.specs.declared.seat.Seat.{Seat}
use Rattle.cs_node_pool.specs.Seats.{Seats, with_place, seated, seat_of_place, seats_taken, without_gaps, reseated}

-- ---- how many

pub sessions-pushed : (seats : Seats) (d : Bytes) (seat : Seat) → seats_taken (seats ++ (d, Some seat) ∷ []) ≡ seats_taken seats + 1
sessions-pushed [] d seat = refl
sessions-pushed (e ∷ seats) d seat = let rest = sessions-pushed seats d seat in omega (arith, rest)

-- where a session is before and after, or a gap
sessions-same : (seats : Seats) (n : ℕ) (w : Option Seat) → is_some w ≡ is_some (seat_of_place n seats) → seats_taken (set_value_at seats n w) ≡ seats_taken seats
sessions-same [] n w same = refl
sessions-same (e ∷ seats) zero w same = ap (λ b. (if b then 1 else 0) + seats_taken seats) same
sessions-same (e ∷ seats) (suc n) w same = ap (λ m. (if is_some e.1 then 1 else 0) + m) (sessions-same seats n w same)

still : (f : ℕ) (change : Pooled → Pooled) (place : Option Seat) → is_some (reseated f change place) ≡ is_some place
still f change None = refl
still f change (Some seat) = refl

pub sessions-changed : (f : ℕ) (change : Pooled → Pooled) (seats : Seats) (n : ℕ) → seats_taken (set_value_at seats n (reseated f change (seat_of_place n seats))) ≡ seats_taken seats
sessions-changed f change seats n = sessions-same seats n (reseated f change (seat_of_place n seats)) (still f change (seat_of_place n seats))

pub sessions-left : (seats : Seats) (n : ℕ) → is_some (seat_of_place n seats) ≡ true → seats_taken (set_value_at seats n None) + 1 ≡ seats_taken seats
sessions-left [] n there = let q : false ≡ true = there in absurd cc
sessions-left (e ∷ seats) zero there =
    let one : ◌≡◌ {A = ℕ} (if is_some e.1 then 1 else 0) 1 = ap (λ (b : Bool). if b then 1 else 0) there in
    omega (arith, one)
sessions-left (e ∷ seats) (suc n) there = let rest = sessions-left seats n there in omega (arith, rest)

one-session : (b : Bool) → (if b then 1 else 0) ≤ 1
one-session true = omega arith
one-session false = omega arith

-- there are no more sessions than places
pub sessions-few : (seats : Seats) → seats_taken seats ≤ length seats
sessions-few [] = omega arith
sessions-few (e ∷ seats) = let rest = sessions-few seats in let one = one-session (is_some e.1) in omega (arith, rest, one)

-- ---- closed

pub seated-closed : (seats : Seats) → seated (without_gaps seats) ≡ seated seats
seated-closed [] = refl
seated-closed (e ∷ seats) = by e.1 (seated-closed seats)
  where
    by : (place : Option Seat) → seated (without_gaps seats) ≡ seated seats → seated (cond (is_some place) ((e.0, place) ∷ without_gaps seats) (without_gaps seats)) ≡ with_place e.0 place (seated seats)
    by None rest = rest
    by (Some seat) rest = ap (λ xs. (e.0, seat.pooled) ∷ xs) rest

pub sessions-closed : (seats : Seats) → seats_taken seats ≡ seats_taken (without_gaps seats)
sessions-closed [] = refl
sessions-closed (e ∷ seats) = by (is_some e.1) refl (sessions-closed seats)
  where
    by : (b : Bool) → is_some e.1 ≡ b → seats_taken seats ≡ seats_taken (without_gaps seats) → seats_taken (e ∷ seats) ≡ seats_taken (cond b (e ∷ without_gaps seats) (without_gaps seats))
    by true t rest = ap (λ n. (if is_some e.1 then 1 else 0) + n) rest
    by false t rest = let none : ◌≡◌ {A = ℕ} (if is_some e.1 then 1 else 0) 0 = ap (λ (b : Bool). if b then 1 else 0) t in omega (arith, none, rest)

-- a digest that isn't found has no place then
pub closed-way : (d : Bytes) (seats : Seats) → found d (seated seats) ≡ None → lookup (bytes_eq d) (without_gaps seats) ≡ None
closed-way d [] h = refl
closed-way d (e ∷ seats) h = by e.1 h (closed-way d seats)
  where
    other : (b : Bool) (p : Pooled) (rest : Option Pooled) → cond b (Some p) rest ≡ None → b ≡ false
    other true p rest q = let r : ◌≡◌ {A = Option Pooled} (Some p) None = q in cc
    other false p rest q = refl

    by : (place : Option Seat) → found d (with_place e.0 place (seated seats)) ≡ None → (found d (seated seats) ≡ None → lookup (bytes_eq d) (without_gaps seats) ≡ None)
        → lookup (bytes_eq d) (cond (is_some place) ((e.0, place) ∷ without_gaps seats) (without_gaps seats)) ≡ None
    by None none rest = rest none
    by (Some seat) none rest =
        let no : bytes_eq d e.0 ≡ false = other (bytes_eq d e.0) seat.pooled (found d (seated seats)) none in
        ap (λ b. cond b (Some (Some seat)) (lookup (bytes_eq d) (without_gaps seats))) no
        ∙ rest (sym (ap (λ b. cond b (Some seat.pooled) (found d (seated seats))) no) ∙ none)
