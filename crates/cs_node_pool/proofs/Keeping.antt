-- Each change keeps the seats, their number and the two sets in step.
use Rattle.std.proofs.Common.{◌≡◌, ℕ, zero, suc, ◌+◌, Bool, true, false, not, cond, [], ◌∷◌, ◌++◌, Option, Some, None, is_some, is_none, length, bytes_eq, refl, ap, sym, subst, ◌∙◌, arith}
use Rattle.std.specs.List.{IsDistinct}
use Rattle.std.specs.Map.{keys_of}
use Rattle.std.specs.Ordering.{nat_cmp}
use Rattle.std.specs.BTreeMap.{is_at}
use Rattle.indexmap.specs.IndexMap.{set_value_at, IsUnique}
use Rattle.cs_base.specs.declared.config.Config.{Config}
use Rattle.cs_ledger.specs.Ledger.{Bytes}
use Rattle.cs_node_state.specs.declared.pooled.Pooled.{Pooled}
use Rattle.cs_node_state.specs.declared.ballot.Ballot.{Ballot}
use Rattle.cs_node_state.specs.Evidence.{has_voted}
use Rattle.cs_node_state.specs.Pool.{pool_changed, without_session, with_ballot, as_locked}
use Rattle.cs_node_pool.specs.declared.kept.Kept.{Kept}
use Rattle.cs_node_pool.specs.declared.seat.Seat.{Seat}
use Rattle.cs_node_pool.specs.Seats.{Seats, seated, pool_in, pooled_in, seat_of_place, passes, waits, is_due, seats_taken, without_gaps, reseated, IsPicked, Placed, AllRight, SoundSeats}
use Rattle.cs_node_pool.proofs.Places.{At, seated-changed, seated-left, place-set, place-pushed}
use Rattle.cs_node_pool.proofs.Picking.{Marked, picked-marked, picked-same}
use Rattle.cs_node_pool.proofs.Closing.{sessions-pushed, sessions-changed, sessions-left, sessions-closed}
use Rattle.cs_node_pool.proofs.Right.{right-at, right-set, right-changed}

-- ---- the last place is given to a session

module _ (old new : Kept) (d : Bytes) (seat : Seat) (entries : new.seats.entries ≡ old.seats.entries ++ (d, Some seat) ∷ []) (placed : Placed old) where
  stood-pushed : (q : ℕ) → seat_of_place q new.seats.entries ≡ cond (is_at (nat_cmp (length old.seats.entries)) q) (Some seat) (seat_of_place q old.seats.entries)
  stood-pushed q = ap (seat_of_place q) entries ∙ place-pushed old.seats.entries (d, Some seat) q

  pub placed-pushed : IsUnique bytes_eq new.seats → new.sessions ≡ old.sessions + 1
      → (b : Bool) → b ≡ waits seat → Marked old.waiting (length old.seats.entries) b new.waiting
      → (due : Bool) → due ≡ is_due seat → Marked old.ready (length old.seats.entries) due new.ready → Placed new
  placed-pushed unique number b b-is waiting due due-is ready = record {
    unique = unique;
    sessions = number ∙ ap (λ m. m + 1) placed.sessions ∙ sym (ap seats_taken entries ∙ sessions-pushed old.seats.entries d seat);
    waiting = picked-marked waits old.waiting new.waiting old.seats.entries new.seats.entries (length old.seats.entries) (Some seat) placed.waiting stood-pushed b b-is waiting;
    ready = picked-marked is_due old.ready new.ready old.seats.entries new.seats.entries (length old.seats.entries) (Some seat) placed.ready stood-pushed due due-is ready;
  }

-- ---- nothing changes

-- a gap stays a gap
pub placed-still : (old new : Kept) → new.seats.entries ≡ old.seats.entries → new.sessions ≡ old.sessions → new.waiting ≡ old.waiting → new.ready ≡ old.ready → Placed old → Placed new
placed-still old new entries number waiting ready placed = record {
  unique = subst (λ seats. IsDistinct bytes_eq (keys_of seats)) (sym entries) placed.unique;
  sessions = number ∙ placed.sessions ∙ sym (ap seats_taken entries);
  waiting = subst (λ seats. IsPicked waits new.waiting seats) (sym entries) (subst (λ s. IsPicked waits s old.seats.entries) (sym waiting) placed.waiting);
  ready = subst (λ seats. IsPicked is_due new.ready seats) (sym entries) (subst (λ s. IsPicked is_due s old.seats.entries) (sym ready) placed.ready);
}

-- what is done at a place leaves the digests
pub unique-set : (seats : Seats) (n : ℕ) (w : Option Seat) → IsDistinct bytes_eq (keys_of seats) → IsDistinct bytes_eq (keys_of (set_value_at seats n w))
unique-set seats n w unique = subst (λ ks. IsDistinct bytes_eq ks) (sym (keys-set seats n w)) unique
  where
    keys-set : (es : Seats) (n : ℕ) (w : Option Seat) → keys_of (set_value_at es n w) ≡ keys_of es
    keys-set [] n w = refl
    keys-set (e ∷ es) zero w = refl
    keys-set (e ∷ es) (suc n) w = ap (λ ks. e.0 ∷ ks) (keys-set es n w)

-- ---- a gap is left

module _ (old new : Kept) (d : Bytes) (n : ℕ) (at : At d old.seats.entries n) (entries : new.seats.entries ≡ set_value_at old.seats.entries n None) (placed : Placed old) where
  stood-left : (q : ℕ) → seat_of_place q new.seats.entries ≡ cond (is_at (nat_cmp n) q) None (seat_of_place q old.seats.entries)
  stood-left q = ap (seat_of_place q) entries ∙ place-set d old.seats.entries n None at q

  pub placed-left : is_some (seat_of_place n old.seats.entries) ≡ true → IsUnique bytes_eq new.seats → new.sessions + 1 ≡ old.sessions
      → Marked old.waiting n false new.waiting → Marked old.ready n false new.ready → Placed new
  placed-left there unique number waiting ready = record {
    unique = unique;
    sessions =
        let left : seats_taken new.seats.entries + 1 ≡ seats_taken old.seats.entries = ap (λ seats. seats_taken seats + 1) entries ∙ sessions-left old.seats.entries n there in
        let were : old.sessions ≡ seats_taken old.seats.entries = placed.sessions in
        omega (arith, left, number, were);
    waiting = picked-marked waits old.waiting new.waiting old.seats.entries new.seats.entries n None placed.waiting stood-left false refl waiting;
    ready = picked-marked is_due old.ready new.ready old.seats.entries new.seats.entries n None placed.ready stood-left false refl ready;
  }

  pub pool-left : pool_in new ≡ without_session d (pool_in old)
  pool-left = ap seated entries ∙ seated-left d old.seats.entries n placed.unique at

-- ---- the session of a place changes

module _ (config : Config) (change : Pooled → Pooled) (same : (p : Pooled) → (change p).session ≡ p.session) (old new : Kept) (d : Bytes) (n : ℕ) (at : At d old.seats.entries n)
    (entries : new.seats.entries ≡ set_value_at old.seats.entries n (reseated config.f change (seat_of_place n old.seats.entries))) (sound : SoundSeats config old) where
  abbrev after : Option Seat
  after = reseated config.f change (seat_of_place n old.seats.entries)

  stood-changed : (q : ℕ) → seat_of_place q new.seats.entries ≡ cond (is_at (nat_cmp n) q) after (seat_of_place q old.seats.entries)
  stood-changed q = ap (seat_of_place q) entries ∙ place-set d old.seats.entries n after at q

  pub pool-changed : pool_in new ≡ pool_changed d change (pool_in old)
  pool-changed = ap seated entries ∙ seated-changed config.f change d old.seats.entries n sound.placed.unique at

  pub sound-changed : IsUnique bytes_eq new.seats → new.sessions ≡ old.sessions → IsPicked waits new.waiting new.seats.entries
      → (due : Bool) → due ≡ passes is_due after → Marked old.ready n due new.ready → SoundSeats config new
  sound-changed unique number waiting due due-is ready = record {
    placed = record {
      unique = unique;
      sessions = number ∙ sound.placed.sessions ∙ sym (ap seats_taken entries ∙ sessions-changed config.f change old.seats.entries n);
      waiting = waiting;
      ready = picked-marked is_due old.ready new.ready old.seats.entries new.seats.entries n after sound.placed.ready stood-changed due due-is ready;
    };
    right = subst (AllRight config) (sym entries)
        (right-set config old.seats.entries n after (right-changed config change same (seat_of_place n old.seats.entries) (right-at config old.seats.entries n sound.right)) sound.right);
  }

  -- whether it waits is as before
  pub waiting-kept : passes waits after ≡ passes waits (seat_of_place n old.seats.entries) → IsPicked waits old.waiting new.seats.entries
  waiting-kept still = picked-same waits old.waiting old.waiting old.seats.entries new.seats.entries n after sound.placed.waiting stood-changed still

  -- it doesn't wait now
  pub waiting-ended : passes waits after ≡ false → Marked old.waiting n false new.waiting → IsPicked waits new.waiting new.seats.entries
  waiting-ended ended waiting = picked-marked waits old.waiting new.waiting old.seats.entries new.seats.entries n after sound.placed.waiting stood-changed false (sym ended) waiting

-- ---- the gaps are closed

pub placed-closed : (old new : Kept) → Placed old → new.seats.entries ≡ without_gaps old.seats.entries → IsUnique bytes_eq new.seats → new.sessions ≡ old.sessions
    → IsPicked waits new.waiting new.seats.entries → IsPicked is_due new.ready new.seats.entries → Placed new
placed-closed old new placed entries unique number waiting ready = record {
  unique = unique;
  sessions = number ∙ placed.sessions ∙ sessions-closed old.seats.entries ∙ sym (ap seats_taken entries);
  waiting = waiting;
  ready = ready;
}

-- ---- what becomes of a session

module _ (ballot : Ballot) (p : Pooled) where
  abbrev counted : Pooled
  counted = record { session = p.session; locked = p.locked; ballots = p.ballots ++ ballot ∷ [] }

  pub ballot-session : (with_ballot ballot p).session ≡ p.session
  ballot-session = elim (has_voted ballot.sender p.ballots) as (λ b. (cond b p counted).session ≡ p.session) [ true ↦ refl | false ↦ refl ]

  ballot-locked : (with_ballot ballot p).locked ≡ p.locked
  ballot-locked = elim (has_voted ballot.sender p.ballots) as (λ b. (cond b p counted).locked ≡ p.locked) [ true ↦ refl | false ↦ refl ]

pub ballot-waits : (f : ℕ) (ballot : Ballot) (place : Option Seat) → passes waits (reseated f (with_ballot ballot) place) ≡ passes waits place
ballot-waits f ballot None = refl
ballot-waits f ballot (Some seat) = ap (λ b. not b) (ballot-locked ballot seat.pooled)

pub locked-waits : (f : ℕ) (place : Option Seat) → passes waits (reseated f as_locked place) ≡ false
locked-waits f None = refl
locked-waits f (Some seat) = refl

-- ---- gaps

pub some-there : (place : Option Seat) → is_none place ≡ false → is_some place ≡ true
some-there None h = let q : true ≡ false = h in absurd cc
some-there (Some seat) h = refl

pub no-session : (place : Option Seat) → is_none place ≡ true → pooled_in place ≡ None
no-session None h = refl
no-session (Some seat) h = let q : false ≡ true = h in absurd cc
