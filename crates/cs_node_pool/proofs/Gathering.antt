-- What is gathered at the places of the sessions on which something is due is what is due, as far as an entry has room.
use Rattle.std.proofs.Common.{◌≡◌, ℕ, ◌-◌, Bool, true, false, not, cond, List, [], ◌∷◌, ◌++◌, length, Option, Some, None, is_some, refl, ap, sym, ◌∙◌, append_assoc, append-nil, le-leb}
use Rattle.std.specs.List.{AllByRecursion}
use Rattle.cs_base.specs.declared.limits.TheConstants.{MOST_ENTRY}
use Rattle.cs_base.specs.declared.config.Config.{Config}
use Rattle.cs_base.specs.declared.version.Version.{Version}
use Rattle.cs_base.specs.declared.version.Version.TheVariants.{One, Two}
use Rattle.cs_tx_value.specs.declared.object.Object.{Object}
use Rattle.cs_tx_types.specs.declared.transaction.Tx.{Tx}
use Rattle.cs_tx_types.specs.declared.vote.Vote.{Vote}
use Rattle.cs_tx_types.specs.declared.action.Action.{Action}
use Rattle.cs_tx_types.specs.declared.entry.Entry.{Entry}
use Rattle.cs_tx_types.specs.Session.{action_encoding, SessionFits, ActionFits}
use Rattle.cs_tx_types.specs.laws.Session.{action_short}
use Rattle.cs_ledger.specs.Ledger.{Bytes}
use Rattle.cs_node_state.specs.declared.pooled.Pooled.{Pooled}
use Rattle.cs_node_state.specs.Setup.{Setup, concerned}
use Rattle.cs_node_state.specs.Pool.{Pool}
use Rattle.cs_node_state.specs.Admission.{due_vote, with_decision, decisions, questions, all_due, has_room_for, beginning, batched, some_entry, due}
use Rattle.cs_node_state.specs.Evidence.{decided_vote}
use Rattle.cs_node_state.specs.laws.Due.{due_fits}
use Rattle.cs_node_pool.specs.Deployed.{deployed_setup}
use Rattle.cs_node_pool.specs.Fits.{PoolFits, DueFits}
use Rattle.cs_node_pool.specs.declared.batch.Batch.{Batch}
use Rattle.cs_node_pool.specs.declared.kept.Kept.{Kept}
use Rattle.cs_node_pool.specs.declared.seat.Seat.{Seat}
use Rattle.cs_node_pool.specs.Seats.{Seats, with_place, seated, pool_in, seat_of_place, passes, waits, is_due, IsRight, IsRightIn, AllRight, SoundSeats}
use Rattle.cs_node_pool.specs.Batches.{most_actions, room_of, unfilled, with_action, filled, action_for, with_seat, actions_at}
use Rattle.cs_node_pool.proofs.Picking.{picked, next, picked-is}
use Rattle.cs_node_pool.proofs.Right.{right-fits}
use Rattle.cs_node_pool.proofs.Dues.{same-vote}

-- ---- filling

pub filled-append : (b : Batch) (xs ys : List Action) → filled b (xs ++ ys) ≡ cond (filled b xs).1 (filled (filled b xs).0 ys) (filled b xs)
filled-append b [] ys = refl
filled-append b (x ∷ xs) ys = by (has_room_for b.left b.room x) (filled-append (with_action x b) xs ys)
  where
    by : (room : Bool) → filled (with_action x b) (xs ++ ys) ≡ cond (filled (with_action x b) xs).1 (filled (filled (with_action x b) xs).0 ys) (filled (with_action x b) xs)
        → cond room (filled (with_action x b) (xs ++ ys)) (b, false)
        ≡ cond (cond room (filled (with_action x b) xs) (b, false)).1 (filled (cond room (filled (with_action x b) xs) (b, false)).0 ys) (cond room (filled (with_action x b) xs) (b, false))
    by true rest = rest
    by false rest = refl

filled-beginning : (b : Batch) (xs : List Action) → (filled b xs).0.actions ≡ b.actions ++ beginning b.left b.room xs
filled-beginning b [] = sym (append-nil b.actions)
filled-beginning b (x ∷ xs) = by (has_room_for b.left b.room x) (filled-beginning (with_action x b) xs)
  where
    by : (room : Bool) → (filled (with_action x b) xs).0.actions ≡ (b.actions ++ x ∷ []) ++ beginning (b.left - 1) (b.room - length (action_encoding x)) xs
        → (cond room (filled (with_action x b) xs) (b, false)).0.actions ≡ b.actions ++ cond room (x ∷ beginning (b.left - 1) (b.room - length (action_encoding x)) xs) []
    by true rest = rest ∙ append_assoc b.actions (x ∷ []) (beginning (b.left - 1) (b.room - length (action_encoding x)) xs)
    by false rest = sym (append-nil b.actions)

-- ---- of either version

no-more : (room : ℕ) (xs : List Action) → beginning 0 room xs ≡ []
no-more room [] = refl
no-more room (x ∷ xs) = refl

batched-is : (version : Version) (xs : List Action) → AllByRecursion ActionFits xs → beginning (most_actions version) (room_of version) xs ≡ batched version xs
batched-is One [] fits = refl
batched-is One (x ∷ xs) fits =
    let room : has_room_for 1 MOST_ENTRY x ≡ true = le-leb (length (action_encoding x)) MOST_ENTRY (action_short x fits.0) in
    ap (λ (r : Bool). cond r (x ∷ beginning 0 (MOST_ENTRY - length (action_encoding x)) xs) []) room
    ∙ ap (λ (more : List Action). x ∷ more) (no-more (MOST_ENTRY - length (action_encoding x)) xs)
batched-is Two xs fits = refl

-- ---- what is due at the places

actions-behind : (e : Bytes × Option Seat) (seats : Seats) (ns : List ℕ) → actions_at (e ∷ seats) (next ns) ≡ actions_at seats ns
actions-behind e seats [] = refl
actions-behind e seats (n ∷ ns) = ap (with_seat (seat_of_place n seats)) (actions-behind e seats ns)

module _ (config : Config) (genesis : List Object) (approves : Tx → Bool) where
  abbrev At : Setup
  At = deployed_setup config genesis approves

  decided-at : (seats : Seats) → AllRight config seats → actions_at seats (picked is_due seats) ≡ decisions At (seated seats)
  decided-at [] right = refl
  decided-at (e ∷ seats) right = by e.1 right.0 (decided-at seats right.1)
    where
      here : (seat : Seat) (vote : Option Vote) → seat.due ≡ vote → actions_at seats (picked is_due seats) ≡ decisions At (seated seats)
          → actions_at ((e.0, Some seat) ∷ seats) (cond (is_some vote) (0 ∷ next (picked is_due seats)) (next (picked is_due seats))) ≡ with_decision seat.pooled.session vote (decisions At (seated seats))
      here seat (Some vote) is rest =
          let behind = actions-behind (e.0, Some seat) seats (picked is_due seats) ∙ rest in
          λ i. action_for seat.pooled.session (is i) ∷ behind i
      here seat None is rest = actions-behind (e.0, Some seat) seats (picked is_due seats) ∙ rest

      by : (place : Option Seat) → IsRightIn config place → actions_at seats (picked is_due seats) ≡ decisions At (seated seats)
          → actions_at ((e.0, place) ∷ seats) (cond (passes is_due place) (0 ∷ next (picked is_due seats)) (next (picked is_due seats))) ≡ decisions At (with_place e.0 place (seated seats))
      by None right rest = actions-behind (e.0, None) seats (picked is_due seats) ∙ rest
      by (Some seat) right rest =
          here seat seat.due refl rest
          ∙ ap (λ (vote : Option Vote). with_decision seat.pooled.session vote (decisions At (seated seats))) (sym (same-vote config genesis approves seat right))

  waiting-at : (seats : Seats) → AllRight config seats → actions_at seats (picked waits seats) ≡ questions (seated seats)
  waiting-at [] right = refl
  waiting-at (e ∷ seats) right = by e.1 right.0 (waiting-at seats right.1)
    where
      here : (seat : Seat) (locked : Bool) → seat.pooled.locked ≡ locked → IsRight config seat → actions_at seats (picked waits seats) ≡ questions (seated seats)
          → actions_at ((e.0, Some seat) ∷ seats) (cond (not locked) (0 ∷ next (picked waits seats)) (next (picked waits seats))) ≡ cond locked (questions (seated seats)) (action_for seat.pooled.session None ∷ questions (seated seats))
      here seat true is right rest = actions-behind (e.0, Some seat) seats (picked waits seats) ∙ rest
      here seat false is right rest =
          let none : seat.due ≡ None = right.due ∙ ap (λ (b : Bool). cond b (decided_vote config.f seat.shards.items seat.pooled.ballots) None) is in
          let behind = actions-behind (e.0, Some seat) seats (picked waits seats) ∙ rest in
          λ i. action_for seat.pooled.session (none i) ∷ behind i

      by : (place : Option Seat) → IsRightIn config place → actions_at seats (picked waits seats) ≡ questions (seated seats)
          → actions_at ((e.0, place) ∷ seats) (cond (passes waits place) (0 ∷ next (picked waits seats)) (next (picked waits seats))) ≡ questions (with_place e.0 place (seated seats))
      by None right rest = actions-behind (e.0, None) seats (picked waits seats) ∙ rest
      by (Some seat) right rest = here seat seat.pooled.locked refl right rest

  -- ---- what is due has an encoding

  decision-fits : (p : Pooled) (vote : Option Vote) (later : List Action) → SessionFits p.session → AllByRecursion ActionFits later → AllByRecursion ActionFits (with_decision p.session vote later)
  decision-fits p (Some vote) later fit rest = (fit, rest)
  decision-fits p None later fit rest = rest

  decisions-fit : (pool : Pool) → PoolFits pool → AllByRecursion ActionFits (decisions At pool)
  decisions-fit [] fits = tt
  decisions-fit (e ∷ pool) fits = decision-fits e.1 (due_vote At.f (concerned At e.1.session) e.1) (decisions At pool) fits.0 (decisions-fit pool fits.1)

  questions-fit : (pool : Pool) → PoolFits pool → AllByRecursion ActionFits (questions pool)
  questions-fit [] fits = tt
  questions-fit (e ∷ pool) fits =
      let rest : AllByRecursion ActionFits (questions pool) = questions-fit pool fits.1 in
      elim e.1.locked as (λ b. AllByRecursion ActionFits (cond b (questions pool) (action_for e.1.session None ∷ questions pool))) [ true ↦ rest | false ↦ (fits.0, rest) ]

  both-fit : (xs ys : List Action) → AllByRecursion ActionFits xs → AllByRecursion ActionFits ys → AllByRecursion ActionFits (xs ++ ys)
  both-fit [] ys of_xs of_ys = of_ys
  both-fit (x ∷ xs) ys of_xs of_ys = (of_xs.0, both-fit xs ys of_xs.1 of_ys)

  all-fit : (pool : Pool) → PoolFits pool → AllByRecursion ActionFits (all_due At pool)
  all-fit pool fits = both-fit (decisions At pool) (questions pool) (decisions-fit pool fits) (questions-fit pool fits)

  -- ---- the due entry

  module _ (kept : Kept) (sound : SoundSeats config kept) where
    abbrev seats : Seats
    seats = kept.seats.entries

    abbrev pub Ready : List Action
    Ready = actions_at seats kept.ready.keys

    abbrev pub Waiting : List Action
    Waiting = actions_at seats kept.waiting.keys

    all-is : Ready ++ Waiting ≡ all_due At (seated seats)
    all-is =
        let ready = ap (actions_at seats) (picked-is is_due kept.ready seats sound.placed.ready) ∙ decided-at seats sound.right in
        let waiting = ap (actions_at seats) (picked-is waits kept.waiting seats sound.placed.waiting) ∙ waiting-at seats sound.right in
        λ i. ready i ++ waiting i

    module _ (version : Version) (is : version ≡ At.version) where
      entry-is : some_entry (filled (unfilled version) (Ready ++ Waiting)).0.actions ≡ due At (seated seats)
      entry-is =
          ap some_entry
          (filled-beginning (unfilled version) (Ready ++ Waiting)
          ∙ ap (beginning (most_actions version) (room_of version)) all-is
          ∙ batched-is version (all_due At (seated seats)) (all-fit (seated seats) (right-fits config seats sound.right))
          ∙ ap (λ (v : Version). batched v (all_due At (seated seats))) is)

      abbrev Decided : Batch × Bool
      Decided = filled (unfilled version) Ready

      -- where there was no room for all decisions
      pub decisions-gathered : Decided.1 ≡ false → some_entry Decided.0.actions ≡ due At (pool_in kept)
      decisions-gathered part =
          let same : filled (unfilled version) (Ready ++ Waiting) ≡ Decided = filled-append (unfilled version) Ready Waiting ∙ ap (λ (b : Bool). cond b (filled Decided.0 Waiting) Decided) part in
          ap (λ (b : Batch × Bool). some_entry b.0.actions) (sym same) ∙ entry-is

      pub all-gathered : Decided.1 ≡ true → some_entry (filled Decided.0 Waiting).0.actions ≡ due At (pool_in kept)
      all-gathered whole =
          let same : filled (unfilled version) (Ready ++ Waiting) ≡ filled Decided.0 Waiting = filled-append (unfilled version) Ready Waiting ∙ ap (λ (b : Bool). cond b (filled Decided.0 Waiting) Decided) whole in
          ap (λ (b : Batch × Bool). some_entry b.0.actions) (sym same) ∙ entry-is

    pub entry-fits : (o : Option Entry) → o ≡ due At (pool_in kept) → DueFits At.version o
    entry-fits None is = tt
    entry-fits (Some entry) is = due_fits At (seated seats) entry (sym is) (all-fit (seated seats) (right-fits config seats sound.right))
