-- What is said of each seat stays so with each change.
use Rattle.std.proofs.Common.{◌≡◌, ℕ, zero, suc, Bool, true, false, cond, [], ◌∷◌, ◌++◌, Option, Some, None, is_some, IfSome, bytes_eq, refl, ap, sym, subst, ◌∙◌}
use Rattle.indexmap.specs.IndexMap.{set_value_at}
use Rattle.cs_base.specs.declared.config.Config.{Config}
use Rattle.cs_ledger.specs.Ledger.{Bytes}
use Rattle.cs_tx_types.specs.declared.session.Session.{Session}
use Rattle.cs_tx_types.specs.Session.{SessionFits}
use Rattle.cs_tx.specs.Uses.{concerned_shards}
use Rattle.cs_tx.specs.Digest.{digest_of_session}
use Rattle.cs_tx.specs.WellFormed.{IsWellFormed}
use Rattle.cs_node_state.specs.declared.pooled.Pooled.{Pooled}
use Rattle.cs_node_state.specs.Pool.{found}
use Rattle.cs_node_pool.specs.Fits.{PoolFits}
use Rattle.cs_node_pool.specs.declared.seat.Seat.{Seat}
use Rattle.cs_node_pool.specs.Seats.{Seats, with_place, seated, seat_of_place, passes, first_passing, without_gaps, reseated, IsKnownSession, IsRight, IsRightIn, AllRight}

module _ (config : Config) where
  pub right-at : (seats : Seats) (n : ℕ) → AllRight config seats → IsRightIn config (seat_of_place n seats)
  right-at [] n right = tt
  right-at (e ∷ seats) zero right = right.0
  right-at (e ∷ seats) (suc n) right = right-at seats n right.1

  pub right-first : (test : Seat → Bool) (seats : Seats) → AllRight config seats → IsRightIn config (first_passing test seats)
  right-first test [] right = tt
  right-first test (e ∷ seats) right =
      elim (passes test e.1) as (λ b. IsRightIn config (cond b e.1 (first_passing test seats))) [ true ↦ right.0 | false ↦ right-first test seats right.1 ]

  -- a session that is found is well formed
  formed-here : (b : Bool) (seat : Seat) (rest : Option Pooled) (p : Pooled) → IsRight config seat → (rest ≡ Some p → IsWellFormed config p.session) → cond b (Some seat.pooled) rest ≡ Some p → IsWellFormed config p.session
  formed-here true seat rest p right later is = let same : seat.pooled ≡ p = cc in subst (λ (x : Pooled). IsWellFormed config x.session) same right.known.formed
  formed-here false seat rest p right later is = later is

  pub formed-found : (d : Bytes) (seats : Seats) (p : Pooled) → AllRight config seats → found d (seated seats) ≡ Some p → IsWellFormed config p.session
  formed-found d [] p right is = let q : ◌≡◌ {A = Option Pooled} None (Some p) = is in absurd cc
  formed-found d (e ∷ seats) p right is = by e.1 right.0 (formed-found d seats p right.1) is
    where
      by : (place : Option Seat) → IsRightIn config place → (found d (seated seats) ≡ Some p → IsWellFormed config p.session) → found d (with_place e.0 place (seated seats)) ≡ Some p → IsWellFormed config p.session
      by None right later is = later is
      by (Some seat) right later is = formed-here (bytes_eq d e.0) seat (found d (seated seats)) p right later is

  pub right-set : (seats : Seats) (n : ℕ) (w : Option Seat) → IsRightIn config w → AllRight config seats → AllRight config (set_value_at seats n w)
  right-set [] n w is right = tt
  right-set (e ∷ seats) zero w is right = (is, right.1)
  right-set (e ∷ seats) (suc n) w is right = (right.0, right-set seats n w is right.1)

  pub right-pushed : (seats : Seats) (d : Bytes) (seat : Seat) → IsRight config seat → AllRight config seats → AllRight config (seats ++ (d, Some seat) ∷ [])
  right-pushed [] d seat is right = (is, tt)
  right-pushed (e ∷ seats) d seat is right = (right.0, right-pushed seats d seat is right.1)

  pub right-closed : (seats : Seats) → AllRight config seats → AllRight config (without_gaps seats)
  right-closed [] right = tt
  right-closed (e ∷ seats) right =
      let rest : AllRight config (without_gaps seats) = right-closed seats right.1 in
      elim (is_some e.1) as (λ b. AllRight config (cond b (e ∷ without_gaps seats) (without_gaps seats))) [ true ↦ (right.0, rest) | false ↦ rest ]

  -- a change of what was taken on a session leaves the session
  pub right-changed : (change : Pooled → Pooled) → ((p : Pooled) → (change p).session ≡ p.session) → (place : Option Seat) → IsRightIn config place → IsRightIn config (reseated config.f change place)
  right-changed change same None right = tt
  right-changed change same (Some seat) right = record {
    known = subst (λ x. IsKnownSession config x seat.digest) (sym (same seat.pooled)) right.known;
    shards = right.shards ∙ ap (concerned_shards config) (sym (same seat.pooled));
    due = refl;
    fits = subst SessionFits (sym (same seat.pooled)) right.fits;
  }

  fits-place : (d : Bytes) (place : Option Seat) (seats : Seats) → IsRightIn config place → PoolFits (seated seats) → PoolFits (with_place d place (seated seats))
  fits-place d None seats right rest = rest
  fits-place d (Some seat) seats right rest = (right.fits, rest)

  pub right-fits : (seats : Seats) → AllRight config seats → PoolFits (seated seats)
  right-fits [] right = tt
  right-fits (e ∷ seats) right = fits-place e.0 e.1 seats right.0 (right-fits seats right.1)

-- so is the session of the first that passes a test
module _ (test : Seat → Bool) where
  pub fits-first : (seats : Seats) (seat : Seat) → PoolFits (seated seats) → first_passing test seats ≡ Some seat → SessionFits seat.pooled.session
  fits-first [] seat fits first = let q : ◌≡◌ {A = Option Seat} None (Some seat) = first in absurd cc
  fits-first (e ∷ seats) seat fits first = by e.1 (fits-first seats seat) fits first
    where
      here : (other : Seat) (b : Bool) → (PoolFits (seated seats) → first_passing test seats ≡ Some seat → SessionFits seat.pooled.session) → SessionFits other.pooled.session → PoolFits (seated seats)
          → cond b (Some other) (first_passing test seats) ≡ Some seat → SessionFits seat.pooled.session
      here other true rest fit fits is = let same : other ≡ seat = cc in subst (λ (x : Seat). SessionFits x.pooled.session) same fit
      here other false rest fit fits is = rest fits is

      by : (place : Option Seat) → (PoolFits (seated seats) → first_passing test seats ≡ Some seat → SessionFits seat.pooled.session) → PoolFits (with_place e.0 place (seated seats))
          → cond (passes test place) place (first_passing test seats) ≡ Some seat → SessionFits seat.pooled.session
      by None rest fits is = rest fits is
      by (Some other) rest fits is = here other (test other) rest fits.0 fits.1 is

-- ---- a session that the pool knows, or not

module _ (config : Config) (x : Session) where
  pub known-formed : (known : Option Bytes) → IfSome known (IsKnownSession config x) → is_some known ≡ true → IsWellFormed config x
  known-formed (Some d) is there = is.formed
  known-formed None is there = let q : false ≡ true = there in cc

  pub known-named : (known : Option Bytes) → IfSome known (IsKnownSession config x) → IfSome known (λ d. d ≡ digest_of_session x)
  known-named (Some d) is = is.named
  known-named None is = tt
