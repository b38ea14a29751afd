-- How a pool is kept: the seat of each session under its digest, at places that rise with each that enters. One that
-- left leaves a gap. Beside them stand the places of the sessions that wait, and of those on which a decision is due.
use Rattle.std.specs.Prelude.{◌≡◌, ℕ, zero, suc, ◌+◌, Bool, false, not, if◌then◌else◌, List, [], ◌∷◌, Option, Some, None, is_some, bytes_eq, filter}
use Rattle.std.specs.Ordering.{nat_cmp}
use Rattle.std.specs.BTreeMap.{is_at}
use Rattle.std.specs.BTreeSet.{BTreeSet, contains}
use Rattle.std.specs.BTreeSet as set
use Rattle.indexmap.specs.IndexMap.{IsUnique}
use Rattle.cs_base.specs.declared.config.Config.{Config}
use Rattle.cs_tx_types.specs.declared.session.Session.{Session}
use Rattle.cs_tx_types.specs.Session.{SessionFits}
use Rattle.cs_ledger.specs.Ledger.{Bytes}
use Rattle.cs_tx.specs.Uses.{concerned_shards}
use Rattle.cs_tx.specs.Digest.{digest_of_session}
use Rattle.cs_tx.specs.WellFormed.{IsWellFormed}
use Rattle.cs_node_state.specs.declared.pooled.Pooled.{Pooled}
use Rattle.cs_node_state.specs.Pool.{Pool}
use Rattle.cs_node_state.specs.Admission.{due_vote}
use Rattle.cs_node_pool.specs.declared.kept.Kept.{Kept}
use Rattle.cs_node_pool.specs.declared.seat.Seat.{Seat}

abbrev pub Seats : Type 0
Seats = List (Bytes × Option Seat)

-- ---- the sessions that are there

abbrev pub pooled_in : Option Seat → Option Pooled
pooled_in None = None
pooled_in (Some seat) = Some seat.pooled

abbrev pub session_on_seat : Option Seat → Option Session
session_on_seat None = None
session_on_seat (Some seat) = Some seat.pooled.session

-- the session of a place, if it is no gap, and those of a pool behind it
abbrev pub with_place : Bytes → Option Seat → Pool → Pool
with_place d None pool = pool
with_place d (Some seat) pool = (d, seat.pooled) ∷ pool

abbrev pub seated : Seats → Pool
seated [] = []
seated (e ∷ seats) = with_place e.0 e.1 (seated seats)

-- in the order of their places
abbrev pub pool_in : Kept → Pool
pool_in kept = seated kept.seats.entries

-- ---- places

-- what is at a place; past the last one is nothing
abbrev pub seat_of_place : ℕ → Seats → Option Seat
seat_of_place n [] = None
seat_of_place zero (e ∷ seats) = e.1
seat_of_place (suc n) (e ∷ seats) = seat_of_place n seats

-- a session is there that passes the test
abbrev pub passes : (Seat → Bool) → Option Seat → Bool
passes test None = false
passes test (Some seat) = test seat

abbrev pub waits : Seat → Bool
waits seat = not seat.pooled.locked

abbrev pub is_due : Seat → Bool
is_due seat = is_some seat.due

-- what is at the first place whose session passes the test
abbrev pub first_passing : (Seat → Bool) → Seats → Option Seat
first_passing test [] = None
first_passing test (e ∷ seats) = if passes test e.1 then e.1 else first_passing test seats

-- the set has the places of the sessions that pass the test
pub record IsPicked (test : Seat → Bool) (chosen : BTreeSet ℕ) (seats : Seats) : Type 0 where
  pub rising : set.IsOrdered nat_cmp chosen
  pub has : (n : ℕ) → contains nat_cmp chosen n ≡ passes test (seat_of_place n seats)

-- the set has this place or not, and the others as before
abbrev pub IsMarked : ℕ → Bool → BTreeSet ℕ → BTreeSet ℕ → Type 0
IsMarked place belongs before after =
    (n : ℕ) → contains nat_cmp after n ≡ (if is_at (nat_cmp place) n then belongs else contains nat_cmp before n)

-- ---- gaps

-- how many places are no gaps
abbrev pub seats_taken : Seats → ℕ
seats_taken [] = 0
seats_taken (e ∷ seats) = (if is_some e.1 then 1 else 0) + seats_taken seats

-- the seats, once the gaps are closed
abbrev pub without_gaps : Seats → Seats
without_gaps seats = filter (λ e. is_some e.1) seats

-- no digest has two places, and the number of sessions and the two sets are those of the seats
pub record Placed (kept : Kept) : Type 0 where
  pub unique : IsUnique bytes_eq kept.seats
  pub sessions : kept.sessions ≡ seats_taken kept.seats.entries
  pub waiting : IsPicked waits kept.waiting kept.seats.entries
  pub ready : IsPicked is_due kept.ready kept.seats.entries

-- ---- what a seat says

-- a session that is well formed, and its digest
pub record IsKnownSession (config : Config) (x : Session) (digest : Bytes) : Type 0 where
  pub formed : IsWellFormed config x
  pub named : digest ≡ digest_of_session x

-- its session is known by its digest and within the limits; the shards that it concerns, and the decision that is due on it
pub record IsRight (config : Config) (seat : Seat) : Type 0 where
  pub known : IsKnownSession config seat.pooled.session seat.digest
  pub shards : seat.shards.items ≡ concerned_shards config seat.pooled.session
  pub due : seat.due ≡ due_vote config.f seat.shards.items seat.pooled
  pub fits : SessionFits seat.pooled.session

abbrev pub IsRightIn : Config → Option Seat → Type 0
IsRightIn config None = Unit {0}
IsRightIn config (Some seat) = IsRight config seat

abbrev pub AllRight : Config → Seats → Type 0
AllRight config [] = Unit {0}
AllRight config (e ∷ seats) = IsRightIn config e.1 × AllRight config seats

pub record SoundSeats (config : Config) (kept : Kept) : Type 0 where
  pub placed : Placed kept
  pub right : AllRight config kept.seats.entries

-- a place whose session changed
abbrev pub reseated : ℕ → (Pooled → Pooled) → Option Seat → Option Seat
reseated f change None = None
reseated f change (Some seat) = Some (record {
  digest = seat.digest;
  pooled = change seat.pooled;
  shards = seat.shards;
  due = due_vote f seat.shards.items (change seat.pooled);
})
