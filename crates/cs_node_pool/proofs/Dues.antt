-- The first place of those that pass a test has the first such session of the pool.
use Rattle.std.proofs.Common.{◌≡◌, ◌↔◌, ℕ, ◌<◌, Bool, true, false, not, cond, List, [], ◌∷◌, Option, Some, None, is_some, option_map, length, inl, inr, refl, ap, sym, ◌∙◌, arith}
use Rattle.cs_base.specs.declared.config.Config.{Config}
use Rattle.cs_tx_value.specs.declared.object.Object.{Object}
use Rattle.cs_tx_types.specs.declared.transaction.Tx.{Tx}
use Rattle.cs_tx_types.specs.declared.session.Session.{Session}
use Rattle.cs_tx_types.specs.declared.vote.Vote.{Vote}
use Rattle.cs_tx_types.specs.declared.action.Action.{Action}
use Rattle.cs_tx_types.specs.declared.action.Action.TheVariants.{Prepare}
use Rattle.cs_node_state.specs.Setup.{Setup, concerned}
use Rattle.cs_tx_types.specs.Session.{session_in}
use Rattle.cs_node_state.specs.Admission.{due_vote}
use Rattle.cs_node_pool.specs.Deployed.{deployed_setup}
use Rattle.cs_node_pool.specs.Calls.{decide_due, first_decided, first_waiting, IsNext}
use Rattle.cs_node_pool.specs.declared.seat.Seat.{Seat}
use Rattle.cs_node_pool.specs.Seats.{Seats, with_place, seated, session_on_seat, passes, first_passing, waits, is_due, IsRight, IsRightIn, AllRight}
use Rattle.cs_node_pool.proofs.Concerned.{concerned-session}

pub no-keys : (ks : List ℕ) → (false ≡ true) ↔ (0 < length ks) → ks ≡ []
no-keys [] h = refl
no-keys (k ∷ ks) h = let q : false ≡ true = h.1 (omega arith) in cc

-- ---- those that wait

abbrev pub prepare_of : Option Seat → Option Action
prepare_of None = None
prepare_of (Some seat) = Some (Prepare seat.pooled.session)

pub waiting-first : (seats : Seats) → first_waiting (seated seats) ≡ prepare_of (first_passing waits seats)
waiting-first [] = refl
waiting-first (e ∷ seats) = by e.1 (waiting-first seats)
  where
    there : (seat : Seat) (b : Bool) → first_waiting (seated seats) ≡ prepare_of (first_passing waits seats)
        → cond b (first_waiting (seated seats)) (Some (Prepare seat.pooled.session)) ≡ prepare_of (cond (not b) (Some seat) (first_passing waits seats))
    there seat true rest = rest
    there seat false rest = refl

    by : (place : Option Seat) → first_waiting (seated seats) ≡ prepare_of (first_passing waits seats)
        → first_waiting (with_place e.0 place (seated seats)) ≡ prepare_of (cond (passes waits place) place (first_passing waits seats))
    by None rest = rest
    by (Some seat) rest = there seat seat.pooled.locked rest

waiting-session : (place : Option Seat) → option_map session_in (prepare_of place) ≡ session_on_seat place
waiting-session None = refl
waiting-session (Some seat) = refl

-- ---- those that are due

abbrev pub decide_of : Option Seat → Option Action
decide_of None = None
decide_of (Some seat) = decide_due seat.pooled.session None seat.due

decided-here : (seat : Seat) (rest : Option Seat) (vote : Option Vote) → seat.due ≡ vote → option_map session_in (decide_of rest) ≡ session_on_seat rest
    → option_map session_in (decide_of (cond (is_some vote) (Some seat) rest)) ≡ session_on_seat (cond (is_some vote) (Some seat) rest)
decided-here seat rest (Some vote) is later = ap (λ v. option_map session_in (decide_due seat.pooled.session None v)) is
decided-here seat rest None is later = later

decided-session : (seats : Seats) → option_map session_in (decide_of (first_passing is_due seats)) ≡ session_on_seat (first_passing is_due seats)
decided-session [] = refl
decided-session (e ∷ seats) = by e.1 (decided-session seats)
  where
    by : (place : Option Seat) → option_map session_in (decide_of (first_passing is_due seats)) ≡ session_on_seat (first_passing is_due seats)
        → option_map session_in (decide_of (cond (passes is_due place) place (first_passing is_due seats))) ≡ session_on_seat (cond (passes is_due place) place (first_passing is_due seats))
    by None rest = rest
    by (Some seat) rest = decided-here seat (first_passing is_due seats) seat.due refl rest

module _ (config : Config) (genesis : List Object) (approves : Tx → Bool) where
  abbrev pub setup : Setup
  setup = deployed_setup config genesis approves

  pub same-vote : (seat : Seat) → IsRight config seat → due_vote setup.f (concerned setup seat.pooled.session) seat.pooled ≡ seat.due
  same-vote seat right =
      ap (λ shards. due_vote config.f shards seat.pooled) (concerned-session config genesis approves seat.pooled.session ∙ sym right.shards) ∙ sym right.due

  due-here : (seat : Seat) (pool : Option Action) (rest : Option Seat) (vote : Option Vote) → seat.due ≡ vote → pool ≡ decide_of rest
      → decide_due seat.pooled.session pool vote ≡ decide_of (cond (is_some vote) (Some seat) rest)
  due-here seat pool rest (Some vote) is later = sym (ap (decide_due seat.pooled.session None) is)
  due-here seat pool rest None is later = later

  pub decided-first : (seats : Seats) → AllRight config seats → first_decided setup (seated seats) ≡ decide_of (first_passing is_due seats)
  decided-first [] right = refl
  decided-first (e ∷ seats) right = by e.1 right.0 (decided-first seats right.1)
    where
      by : (place : Option Seat) → IsRightIn config place → first_decided setup (seated seats) ≡ decide_of (first_passing is_due seats)
          → first_decided setup (with_place e.0 place (seated seats)) ≡ decide_of (cond (passes is_due place) place (first_passing is_due seats))
      by None right rest = rest
      by (Some seat) right rest =
          ap (decide_due seat.pooled.session (first_decided setup (seated seats))) (same-vote seat right)
          ∙ due-here seat (first_decided setup (seated seats)) (first_passing is_due seats) seat.due refl rest

  -- ---- those that come next

  module _ (seats : Seats) (right : AllRight config seats) (x : Session) where
    pub next-decided : session_on_seat (first_passing is_due seats) ≡ Some x → IsNext setup (seated seats) x
    next-decided is = inl (ap (option_map session_in) (decided-first seats right) ∙ decided-session seats ∙ is)

    -- where it isn't the first on which a decision is due
    pub next-waiting : (found : Bool) → (session_on_seat (first_passing is_due seats) ≡ Some x → ⊥) → (found ≡ true) ↔ (session_on_seat (first_passing waits seats) ≡ Some x)
        → (found ≡ true) ↔ IsNext setup (seated seats) x
    next-waiting found other same =
        let decided = ap (option_map session_in) (decided-first seats right) ∙ decided-session seats in
        let waiting = ap (option_map session_in) (waiting-first seats) ∙ waiting-session (first_passing waits seats) in (
          (λ there. inr (waiting ∙ same.0 there)),
          (λ next. elim next [ inl first ↦ absurd (other (sym decided ∙ first)) | inr second ↦ same.1 (sym waiting ∙ second) ]),
        )
