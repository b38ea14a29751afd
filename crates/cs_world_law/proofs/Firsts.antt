-- The first executions of a shard: each honest node's log is the older part of theirs, and each of them some honest node made.
use Rattle.std.proofs.Common.{◌≡◌, ◌⊎◌, inl, inr, ℕ, suc, ◌<◌, ◌≤◌, ◌==◌, nat_lt, Bool, true, false, ◌&&◌, ◌||◌, if◌then◌else◌, List, [], ◌∷◌, length, map, Option, Some, None, arith, sym, ◌∙◌, ap, subst, refl}
use Rattle.std.specs.Prelude.{slice_get}
use Rattle.std.proofs.lemmas.Bool.{cond_both, both_ways, eqb-true, eq-eqb, ltb-true, or_left, or_right, and_from}
use Rattle.std.proofs.lemmas.List.{length-map}
use Rattle.cs_base.specs.declared.node_id.NodeId.{NodeId}
use Rattle.cs_tx_types.specs.declared.action.Action.{Action}
use Rattle.cs_ledger.specs.Ledger.{Bytes}
use Rattle.cs_ledger.specs.Table.{Vote, Effect}
use Rattle.cs_ledger.specs.ShardWorld.{log, votes_in}
use Rattle.cs_node_state.specs.Setup.{Setup, entry_of}
use Rattle.cs_order.specs.declared.proposed.Proposed.{Proposed}
use Rattle.cs_order.specs.Deeds.{chosen_in}
use Rattle.cs_node_rules.specs.Signs.{Sign, Dropped, Took, Entered, Viewed, Did, Headed, Kept, Sent}
use Rattle.cs_node_rules.specs.Site.{Mark, In, Ordered, Plain, Site, signs_of}
use Rattle.cs_node_rules.specs.World.{Execution, steps_of, count_executed, newest_of, is_after}
use Rattle.cs_node_law.specs.Made.{log_in, has_given}
use Rattle.cs_world_law.specs.Worlds.{is_honest}
use Rattle.cs_world_law.specs.Chain.{Moment, trail_at, Known, Story, IsSoundSite, firsts_at, story_firsts, shard_entries, shard_runs, runs_in}
use Rattle.cs_node_law.proofs.Views.{me-same}
use Rattle.cs_node_law.proofs.Logs.{seen, seen_log, given-is}
use Rattle.cs_world_law.proofs.Trails.{trail-both, trail-own, made-all}
use Rattle.cs_world_law.proofs.Lawful.{AreLawful}
use Rattle.cs_world_law.specs.Steps.{Follows, Run}
use Rattle.cs_world_law.proofs.Deeds.{deeds_in}
use Rattle.cs_world_law.proofs.Agree.{got-below, order-of, runs-count, AreAlike, ComesBefore, IsPlaced, size, front, front-alike, front-low, front-apart, placed-before, placed-same, placed-now, placed-all, chosen-alike, runs-agree}
use Rattle.cs_world_law.proofs.Older.{at_slot, lt-not, eq-is, at-some, at-more, at-last, IsOlder, older-grow, older-old, older-new, map-older, at-map, map-at, older-votes}

-- ---- the log of a shard

pub counted-entries : (shard : ℕ) (firsts : List Execution) → count_executed shard firsts ≡ length (shard_entries shard firsts)
counted-entries shard [] = refl
counted-entries shard (e ∷ earlier) = go (e.shard == shard) (counted-entries shard earlier)
  where
    go : (b : Bool) → count_executed shard earlier ≡ length (shard_entries shard earlier) → (if b then suc (count_executed shard earlier) else count_executed shard earlier) ≡ length (if b then e.entry ∷ shard_entries shard earlier else shard_entries shard earlier)
    go true later = ap suc later
    go false later = later

pub log-seen : (setup : Setup) (shard : ℕ) (firsts : List Execution) → log shard (steps_of setup firsts) ≡ seen setup (shard_entries shard firsts)
log-seen setup shard [] = refl
log-seen setup shard (e ∷ earlier) = go (e.shard == shard) (log-seen setup shard earlier)
  where
    go : (b : Bool) → log shard (steps_of setup earlier) ≡ seen setup (shard_entries shard earlier) → (if b then entry_of setup e.entry ∷ log shard (steps_of setup earlier) else log shard (steps_of setup earlier)) ≡ seen setup (if b then e.entry ∷ shard_entries shard earlier else shard_entries shard earlier)
    go true later = ap (λ l. entry_of setup e.entry ∷ l) later
    go false later = later

-- ---- the actions in their places

-- what a node executed, the newest first
abbrev pub own_log : {M : Type 0} → NodeId → List (Moment M) → List Action
own_log {M} i story = log_in (signs_of (trail_at i story))

-- and in its places
abbrev pub own_runs : {M : Type 0} → NodeId → List (Moment M) → List Run
own_runs {M} i story = runs_in (signs_of (trail_at i story))

abbrev pub run_of : Execution → Run
run_of e = record { slot = e.slot; place = e.place; action = e.entry }

abbrev pub action_in : Run → Action
action_in run = run.action

pub own-actions : (signs : List Sign) → map action_in (runs_in signs) ≡ log_in signs
own-actions [] = refl
own-actions (Did slot place action effect ∷ past) = ap (λ (l : List Action). action ∷ l) (own-actions past)
own-actions (Dropped cause ∷ past) = own-actions past
own-actions (Took sender vote x ∷ past) = own-actions past
own-actions (Entered x ∷ past) = own-actions past
own-actions (Viewed slot view ∷ past) = own-actions past
own-actions (Headed number head ∷ past) = own-actions past
own-actions (Kept index checkpoint ∷ past) = own-actions past
own-actions (Sent to said ∷ past) = own-actions past

pub shard-actions : (shard : ℕ) (firsts : List Execution) → map action_in (shard_runs shard firsts) ≡ shard_entries shard firsts
shard-actions shard [] = refl
shard-actions shard (e ∷ earlier) = go (e.shard == shard) (shard-actions shard earlier)
  where
    go : (b : Bool) → map action_in (shard_runs shard earlier) ≡ shard_entries shard earlier
        → map action_in (if b then run_of e ∷ shard_runs shard earlier else shard_runs shard earlier) ≡ (if b then e.entry ∷ shard_entries shard earlier else shard_entries shard earlier)
    go true later = ap (λ (l : List Action). e.entry ∷ l) later
    go false later = later

pub counted-runs : (shard : ℕ) (firsts : List Execution) → count_executed shard firsts ≡ length (shard_runs shard firsts)
counted-runs shard firsts = counted-entries shard firsts ∙ ap (λ (l : List Action). length l) (sym (shard-actions shard firsts)) ∙ length-map (shard_runs shard firsts) action_in

-- the newest execution is the newest of its shard
abbrev IsNewest : Option Execution → List Run → Type 0
IsNewest newest runs = ((newest ≡ None) × (runs ≡ [])) ⊎ ((e : Execution) × (rest : List Run) × (newest ≡ Some e) × (runs ≡ run_of e ∷ rest))

newest-is : (shard : ℕ) (firsts : List Execution) → IsNewest (newest_of shard firsts) (shard_runs shard firsts)
newest-is shard [] = inl (refl, refl)
newest-is shard (e ∷ earlier) = go (e.shard == shard) (newest-is shard earlier)
  where
    go : (b : Bool) → IsNewest (newest_of shard earlier) (shard_runs shard earlier)
        → IsNewest (if b then Some e else newest_of shard earlier) (if b then run_of e ∷ shard_runs shard earlier else shard_runs shard earlier)
    go true before = inr (e, shard_runs shard earlier, refl, refl)
    go false before = before

-- ---- what comes after

and-false : (b : Bool) → (b && false) ≡ false
and-false true = refl
and-false false = refl

lt-is : (a b : ℕ) → a < b → nat_lt a b ≡ true
lt-is a b h = grind arith

not-lt : (a b : ℕ) → b ≤ a → nat_lt a b ≡ false
not-lt a b h = grind arith

not-eq : (a b : ℕ) → b < a → (a == b) ≡ false
not-eq a b h = grind arith

pub after-is : (e : Execution) (run : Run) → ComesBefore (run_of e) run → is_after run.slot run.place (Some e) ≡ true
after-is e run (inl less) = or_left _ _ (lt-is e.slot run.slot less)
after-is e run (inr same) = or_right _ _ (and_from _ _ (eq-is e.slot run.slot same.0) (lt-is e.place run.place same.1))

after-not : (e : Execution) (run : Run) → ComesBefore run (run_of e) ⊎ (run ≡ run_of e) → is_after run.slot run.place (Some e) ≡ false
after-not e run (inl (inl less)) =
    let a = not-lt e.slot run.slot (omega (arith, less)) in
    let b = not-eq e.slot run.slot less in
    λ i. a i || (b i && nat_lt e.place run.place)
after-not e run (inl (inr same)) =
    let a = not-lt e.slot run.slot (omega (arith, same.0)) in
    let b = not-lt e.place run.place (omega (arith, same.1)) in
    (λ i. a i || ((e.slot == run.slot) && b i)) ∙ and-false (e.slot == run.slot)
after-not e run (inr same) =
    let slots : run.slot ≡ e.slot = ap (λ (r : Run). r.slot) same in
    let places : run.place ≡ e.place = ap (λ (r : Run). r.place) same in
    let a = not-lt e.slot run.slot (omega (arith, slots)) in
    let b = not-lt e.place run.place (omega (arith, places)) in
    (λ i. a i || ((e.slot == run.slot) && b i)) ∙ and-false (e.slot == run.slot)

-- a mark that is no execution
record IsSilent {M : Type 0} (mark : Mark M) : Type 0 where
  pub runs : (t : List (Mark M)) → runs_in (signs_of (mark ∷ t)) ≡ runs_in (signs_of t)
  pub firsts : (node : NodeId) (firsts : List Execution) → firsts_at node mark firsts ≡ firsts

module _ {M : Type 0} (site : Site M) (sound : IsSoundSite site) (known : Known) (lawful : AreLawful site known) where
  -- an honest node of the shard executed the action in this place, as its action of this number
  pub record IsSourceOf (shard : ℕ) (story : List (Moment M)) (number : ℕ) (run : Run) : Type 0 where
    pub node : NodeId
    pub honest : is_honest site node ≡ true
    pub here : node.shard ≡ shard
    pub has : at_slot (own_runs node story) number ≡ Some run

  pub record AreRuns (shard : ℕ) (story : List (Moment M)) : Type 0 where
    pub older : (i : NodeId) → is_honest site i ≡ true → i.shard ≡ shard → IsOlder (own_runs i story) (shard_runs shard (story_firsts story))
    pub from : (number : ℕ) (run : Run) → at_slot (shard_runs shard (story_firsts story)) number ≡ Some run → IsSourceOf shard story number run

  first-silent : (shard : ℕ) (node : NodeId) (mark : Mark M) (past : List (Moment M)) → IsSilent mark → AreRuns shard past → AreRuns shard (record { node = node; mark = mark } ∷ past)
  first-silent shard node mark past s k =
      let m : Moment M = record { node = node; mark = mark } in
      let same = s.firsts node (story_firsts past) in
      record {
        older = λ i honest here.
            subst (λ f. IsOlder (own_runs i (m ∷ past)) (shard_runs shard f)) (sym same)
            (trail-both (λ t. IsOlder (runs_in (signs_of t)) (shard_runs shard (story_firsts past))) i m past
            (λ own. subst (λ l. IsOlder l (shard_runs shard (story_firsts past))) (sym (s.runs (trail_at i past))) (k.older i honest here))
            (k.older i honest here));
        from = λ number run h.
            let r = k.from number run (ap (λ f. at_slot (shard_runs shard f) number) (sym same) ∙ h) in
            record {
              node = r.node;
              honest = r.honest;
              here = r.here;
              has = trail-both (λ t. at_slot (runs_in (signs_of t)) number ≡ Some run) r.node m past (λ own. ap (λ l. at_slot l number) (s.runs (trail_at r.node past)) ∙ r.has) r.has;
            };
      }

  module _ (node : NodeId) (n p : ℕ) (entry : Action) (effect : Effect) (past : List (Moment M)) (story : Story site known (record { node = node; mark = Plain (Did n p entry effect) } ∷ past)) where
    abbrev Now : Moment M
    Now = record { node = node; mark = Plain (Did n p entry effect) }

    abbrev New : Execution
    New = record { shard = node.shard; slot = n; place = p; entry = entry; effect = effect }

    abbrev Here : Run
    Here = record { slot = n; place = p; action = entry }

    -- so many actions the node executed before
    abbrev Before : ℕ
    Before = length (own_runs node past)

    abbrev Runs : List Run
    Runs = shard_runs node.shard (story_firsts past)

    abbrev Newest : Option Execution
    Newest = newest_of node.shard (story_firsts past)

    abbrev Order : NodeId → List Proposed
    Order i = chosen_in (deeds_in (trail_at i past))

    placed-here : IsPlaced site (Order node) Before Here
    placed-here =
        subst (λ (k : ℕ). IsPlaced site (Order node) k Here) (sym (runs-count (signs_of (trail_at node past))))
        (placed-now site node (trail_at node past) n p entry effect story.0.made)

    -- what stood in a log stays there
    raised : (j : NodeId) (number : ℕ) (e : Run) → at_slot (own_runs j past) number ≡ Some e → at_slot (own_runs j (Now ∷ past)) number ≡ Some e
    raised j number e h = trail-both (λ t. at_slot (runs_in (signs_of t)) number ≡ Some e) j Now past (λ own. at-more Here (own_runs j past) number e h) h

    raise : (shard : ℕ) (number : ℕ) (e : Run) → IsSourceOf shard past number e → IsSourceOf shard (Now ∷ past) number e
    raise shard number e s = record { node = s.node; honest = s.honest; here = s.here; has = raised s.node number e s.has }

    -- the execution itself
    own-run : at_slot (own_runs node (Now ∷ past)) Before ≡ Some Here
    own-run =
        ap (λ (t : List (Mark M)). at_slot (runs_in (signs_of t)) Before) (trail-own node (Plain (Did n p entry effect)) past)
        ∙ at-last Here (own_runs node past) Before refl

    abbrev Chosen : List Proposed
    Chosen = Order node

    -- the newest of the shard, by the order of a node
    record IsKnownNewest (e : Execution) (rest : List Run) : Type 0 where
      pub by : NodeId
      pub alike : AreAlike (Order by) Chosen
      pub placed : IsPlaced site (Order by) (length rest) (run_of e)

    newest-known : AreRuns node.shard past → (e : Execution) (rest : List Run) → Runs ≡ run_of e ∷ rest → IsKnownNewest e rest
    newest-known k e rest is =
        let there : at_slot Runs (length rest) ≡ Some (run_of e) = ap (λ (l : List Run). at_slot l (length rest)) is ∙ at-last (run_of e) rest (length rest) refl in
        let s = k.from (length rest) (run_of e) there in
        record {
          by = s.node;
          alike = chosen-alike site sound known lawful past story.1 s.node node s.honest story.0.honest s.here;
          placed = placed-all site s.node (trail_at s.node past) (length rest) (run_of e) (made-all site known s.node past story.1) s.has;
        }

    back : (qs : List Proposed) → AreAlike qs Chosen → AreAlike Chosen qs
    back qs alike slot q r y x = sym (alike slot r q x y)

    -- one that the shard has comes not after the newest
    again-not : AreRuns node.shard past → Before < length Runs → is_after n p Newest ≡ false
    again-not k less = elim (newest-is node.shard (story_firsts past)) [
      | inl none ↦ let empty : length Runs ≡ 0 = ap (λ (l : List Run). length l) none.1 in absurd (omega (arith, less, empty))
      | inr newest ↦
          let e = newest.0 in
          let rest = newest.1 in
          let known_is = newest-known k e rest newest.3 in
          let count : length Runs ≡ suc (length rest) = ap (λ (l : List Run). length l) newest.3 in
          let none_after : is_after n p (Some e) ≡ false = elim (order-of Before (length rest)) [
            | inl lower ↦ after-not e Here (inl (placed-before site Chosen (Order known_is.by) (back (Order known_is.by) known_is.alike) Before (length rest) Here (run_of e) placed-here known_is.placed lower))
            | inr more ↦ elim more [
              | inl same ↦
                  let at : IsPlaced site Chosen (length rest) Here = subst (λ (number : ℕ). IsPlaced site Chosen number Here) same placed-here in
                  after-not e Here (inr (placed-same site Chosen (Order known_is.by) (back (Order known_is.by) known_is.alike) (length rest) Here (run_of e) at known_is.placed))
              | inr higher ↦ absurd (omega (arith, less, count, higher))
            ]
          ] in
          ap (is_after n p) newest.2 ∙ none_after
    ]

    -- one that it hasn't comes after
    pub new-after : AreRuns node.shard past → length Runs ≤ Before → is_after n p Newest ≡ true
    new-after k more = elim (newest-is node.shard (story_firsts past)) [
      | inl none ↦ ap (is_after n p) none.0
      | inr newest ↦
          let e = newest.0 in
          let rest = newest.1 in
          let known_is = newest-known k e rest newest.3 in
          let count : length Runs ≡ suc (length rest) = ap (λ (l : List Run). length l) newest.3 in
          ap (is_after n p) newest.2
          ∙ after-is e Here (placed-before site (Order known_is.by) Chosen known_is.alike (length rest) Before (run_of e) Here known_is.placed placed-here (omega (arith, more, count)))
    ]

    -- in another shard
    first-other : (shard : ℕ) → (node.shard == shard) ≡ false → AreRuns shard past → AreRuns shard (Now ∷ past)
    first-other shard other k =
        let same : shard_runs shard (story_firsts (Now ∷ past)) ≡ shard_runs shard (story_firsts past) =
        cond_both (is_after n p Newest) (New ∷ story_firsts past) (story_firsts past) (λ f. shard_runs shard f ≡ shard_runs shard (story_firsts past))
        (λ e. ap (λ b. if b then Here ∷ shard_runs shard (story_firsts past) else shard_runs shard (story_firsts past)) other) (λ e. refl) in
        record {
          older = λ i honest here.
              subst (λ l. IsOlder (own_runs i (Now ∷ past)) l) (sym same)
              (trail-both (λ t. IsOlder (runs_in (signs_of t)) (shard_runs shard (story_firsts past))) i Now past
              (λ own. absurd (both_ways (node.shard == shard) other (eq-eqb node.shard shard (ap (λ (z : NodeId). z.shard) own ∙ here))))
              (k.older i honest here));
          from = λ number e h. raise shard number e (k.from number e (ap (λ l. at_slot l number) (sym same) ∙ h));
        }

    -- one that was executed before
    first-again : Before < length Runs → AreRuns node.shard past → AreRuns node.shard (Now ∷ past)
    first-again below k =
        let same : shard_runs node.shard (story_firsts (Now ∷ past)) ≡ Runs = ap (λ b. shard_runs node.shard (if b then New ∷ story_firsts past else story_firsts past)) (again-not k below) in
        let a = at-some Runs Before below in
        let s = k.from Before a.0 a.1 in
        let one : a.0 ≡ Here = runs-agree site sound known lawful (Now ∷ past) story s.node node Before a.0 Here s.honest story.0.honest s.here (raised s.node Before a.0 s.has) own-run in
        let there : at_slot Runs Before ≡ Some Here = a.1 ∙ ap (λ x. Some x) one in
        record {
          older = λ i honest here.
              subst (λ z. IsOlder (own_runs i (Now ∷ past)) z) (sym same)
              (trail-both (λ t. IsOlder (runs_in (signs_of t)) Runs) i Now past
              (λ own. older-old (own_runs i past) Runs Before Here (k.older i honest here) (ap (λ z. length (own_runs z past)) own) below there)
              (k.older i honest here));
          from = λ number e h. raise node.shard number e (k.from number e (ap (λ z. at_slot z number) (sym same) ∙ h));
        }

    -- it is the next of its shard
    exact : AreRuns node.shard past → length Runs ≤ Before → Before ≡ length Runs
    exact k more = let h = (k.older node story.0.honest refl).shorter in omega (arith, h, more)

    -- one that is executed for the first time
    first-new : length Runs ≤ Before → AreRuns node.shard past → AreRuns node.shard (Now ∷ past)
    first-new more k =
        let same : shard_runs node.shard (story_firsts (Now ∷ past)) ≡ Here ∷ Runs =
        ap (λ b. shard_runs node.shard (if b then New ∷ story_firsts past else story_firsts past)) (new-after k more)
        ∙ ap (λ b. if b then Here ∷ Runs else Runs) (eq-eqb node.shard node.shard refl) in
        record {
          older = λ i honest here.
              subst (λ z. IsOlder (own_runs i (Now ∷ past)) z) (sym same)
              (trail-both (λ t. IsOlder (runs_in (signs_of t)) (Here ∷ Runs)) i Now past
              (λ own. older-new (own_runs i past) Runs Before Here (k.older i honest here) (ap (λ z. length (own_runs z past)) own) more)
              (older-grow (own_runs i past) Runs Here (k.older i honest here)));
          from = λ number e h. source number e (exact k more) (number == length Runs) refl (ap (λ z. at_slot z number) (sym same) ∙ h) (k.from number e);
        }
      where
        source : (number : ℕ) (e : Run) → Before ≡ length Runs → (b : Bool) → (number == length Runs) ≡ b
            → (if b then Some Here else at_slot Runs number) ≡ Some e → (at_slot Runs number ≡ Some e → IsSourceOf node.shard past number e) → IsSourceOf node.shard (Now ∷ past) number e
        source number e last true is h from =
            let at : Before ≡ number = last ∙ sym (eqb-true number (length Runs) is) in
            record { node = node; honest = story.0.honest; here = refl; has = subst (λ k. at_slot (own_runs node (Now ∷ past)) k ≡ Some Here) at own-run ∙ h }
        source number e last false other h from = raise node.shard number e (from h)

    first-here : AreRuns node.shard past → AreRuns node.shard (Now ∷ past)
    first-here k = go (nat_lt Before (length Runs)) refl
      where
        go : (b : Bool) → nat_lt Before (length Runs) ≡ b → AreRuns node.shard (Now ∷ past)
        go true less = first-again (ltb-true Before (length Runs) less) k
        go false more = first-new (lt-not Before (length Runs) more) k

    first-did : (shard : ℕ) → AreRuns shard past → AreRuns shard (Now ∷ past)
    first-did shard k = go (node.shard == shard) refl
      where
        go : (b : Bool) → (node.shard == shard) ≡ b → AreRuns shard (Now ∷ past)
        go false other = first-other shard other k
        go true same =
            let is = eqb-true node.shard shard same in
            subst (λ s. AreRuns s (Now ∷ past)) is (first-here (subst (λ s. AreRuns s past) (sym is) k))

    -- what comes after the newest is the next of its shard
    pub next-of-shard : AreRuns node.shard past → is_after n p Newest ≡ true → Before ≡ length Runs
    next-of-shard k after = go (nat_lt Before (length Runs)) refl
      where
        go : (b : Bool) → nat_lt Before (length Runs) ≡ b → Before ≡ length Runs
        go true less = absurd (both_ways (is_after n p Newest) (again-not k (ltb-true Before (length Runs) less)) after)
        go false more = exact k (lt-not Before (length Runs) more)

    -- and follows it
    pub follows-newest : ((slot : ℕ) (q : Proposed) → slice_get Chosen slot ≡ Some q → 0 < size site q) → AreRuns node.shard past → Before ≡ length Runs → Follows n p Newest
    follows-newest some k last = elim (newest-is node.shard (story_firsts past)) [
      | inl none ↦
          let empty : length Runs ≡ 0 = ap (λ (l : List Run). length l) none.1 in
          let low = front-low site Chosen some n placed-here.proposed placed-here.there in
          let slot : n ≡ 0 = omega (arith, last, empty, low, placed-here.number_is) in
          let place : p ≡ 0 = omega (arith, last, empty, placed-here.number_is) in
          subst (Follows n p) (sym none.0) (slot, place)
      | inr newest ↦
          let e = newest.0 in
          let rest = newest.1 in
          let known_is = newest-known k e rest newest.3 in
          let u = known_is.placed in
          let count : length Runs ≡ suc (length rest) = ap (λ (l : List Run). length l) newest.3 in
          let next : Before ≡ suc (length rest) = last ∙ count in
          let there : Follows n p (Some e) = elim (placed-before site (Order known_is.by) Chosen known_is.alike (length rest) Before (run_of e) Here u placed-here (omega (arith, next))) [
            | inl less ↦
                let apart = front-apart site (Order known_is.by) Chosen known_is.alike some e.slot n u.proposed placed-here.proposed u.there placed-here.there less in
                let inside = got-below (site.entry_in u.proposed).actions e.place e.entry u.within in
                let slot : n ≡ suc e.slot = omega (arith, apart, inside, next, less, u.number_is, placed-here.number_is) in
                let place : p ≡ 0 = omega (arith, apart, inside, next, less, u.number_is, placed-here.number_is) in
                inr (slot, place)
            | inr same ↦
                let at : slice_get (Order known_is.by) n ≡ Some u.proposed = ap (λ (s : ℕ). slice_get (Order known_is.by) s) (sym same.0) ∙ u.there in
                let fronts : front site (Order known_is.by) n ≡ front site Chosen n = front-alike site (Order known_is.by) Chosen known_is.alike n u.proposed placed-here.proposed at placed-here.there in
                let here : front site (Order known_is.by) e.slot ≡ front site (Order known_is.by) n = ap (λ (s : ℕ). front site (Order known_is.by) s) same.0 in
                let place : p ≡ suc e.place = omega (arith, next, fronts, here, u.number_is, placed-here.number_is) in
                inl (sym same.0, place)
          ] in
          subst (Follows n p) (sym newest.2) there
    ]

  first-step : (shard : ℕ) (node : NodeId) (mark : Mark M) (past : List (Moment M)) → Story site known (record { node = node; mark = mark } ∷ past) → AreRuns shard past → AreRuns shard (record { node = node; mark = mark } ∷ past)
  first-step shard node (Plain (Did n p entry effect)) past story k = first-did node n p entry effect past story shard k
  first-step shard node (In input) past story k = first-silent shard node (In input) past (record { runs = λ t. refl; firsts = λ i f. refl }) k
  first-step shard node (Ordered deed) past story k = first-silent shard node (Ordered deed) past (record { runs = λ t. refl; firsts = λ i f. refl }) k
  first-step shard node (Plain (Dropped cause)) past story k = first-silent shard node (Plain (Dropped cause)) past (record { runs = λ t. refl; firsts = λ i f. refl }) k
  first-step shard node (Plain (Took sender vote x)) past story k = first-silent shard node (Plain (Took sender vote x)) past (record { runs = λ t. refl; firsts = λ i f. refl }) k
  first-step shard node (Plain (Entered x)) past story k = first-silent shard node (Plain (Entered x)) past (record { runs = λ t. refl; firsts = λ i f. refl }) k
  first-step shard node (Plain (Viewed n view)) past story k = first-silent shard node (Plain (Viewed n view)) past (record { runs = λ t. refl; firsts = λ i f. refl }) k
  first-step shard node (Plain (Headed number head)) past story k = first-silent shard node (Plain (Headed number head)) past (record { runs = λ t. refl; firsts = λ i f. refl }) k
  first-step shard node (Plain (Kept index checkpoint)) past story k = first-silent shard node (Plain (Kept index checkpoint)) past (record { runs = λ t. refl; firsts = λ i f. refl }) k
  first-step shard node (Plain (Sent to said)) past story k = first-silent shard node (Plain (Sent to said)) past (record { runs = λ t. refl; firsts = λ i f. refl }) k

  pub are-runs : (shard : ℕ) (story : List (Moment M)) → Story site known story → AreRuns shard story
  are-runs shard [] story = record {
    older = λ i honest here. record { shorter = omega arith; is = refl };
    from = λ number run h. absurd cc;
  }
  are-runs shard (m ∷ past) story = first-step shard m.node m.mark past story (are-runs shard past story.1)

  -- ---- without their places

  -- an honest node of the shard executed the action as its action of this number
  pub record IsSource (shard : ℕ) (story : List (Moment M)) (number : ℕ) (entry : Action) : Type 0 where
    pub node : NodeId
    pub honest : is_honest site node ≡ true
    pub here : node.shard ≡ shard
    pub has : at_slot (own_log node story) number ≡ Some entry

  pub record AreFirst (shard : ℕ) (story : List (Moment M)) : Type 0 where
    pub older : (i : NodeId) → is_honest site i ≡ true → i.shard ≡ shard → IsOlder (own_log i story) (shard_entries shard (story_firsts story))
    pub from : (number : ℕ) (entry : Action) → at_slot (shard_entries shard (story_firsts story)) number ≡ Some entry → IsSource shard story number entry

  pub are-first : (shard : ℕ) (story : List (Moment M)) → Story site known story → AreFirst shard story
  are-first shard story story_is =
      let k = are-runs shard story story_is in
      let runs = shard_runs shard (story_firsts story) in
      let all : map action_in runs ≡ shard_entries shard (story_firsts story) = shard-actions shard (story_firsts story) in
      record {
        older = λ i honest here.
            subst (λ (l : List Action). IsOlder (own_log i story) l) all
            (subst (λ (l : List Action). IsOlder l (map action_in runs)) (own-actions (signs_of (trail_at i story))) (map-older action_in (own_runs i story) runs (k.older i honest here)));
        from = λ number entry h.
            let found = at-map action_in runs number entry (ap (λ (l : List Action). at_slot l number) all ∙ h) in
            let s = k.from number found.0 found.1 in
            record {
              node = s.node;
              honest = s.honest;
              here = s.here;
              has = ap (λ (l : List Action). at_slot l number) (sym (own-actions (signs_of (trail_at s.node story))))
                  ∙ map-at action_in (own_runs s.node story) number found.0 s.has
                  ∙ ap (λ (a : Action). Some a) found.2;
            };
      }

  -- a vote that an honest node gave is a vote of its shard
  pub given-voted : (story : List (Moment M)) (i : NodeId) (d : Bytes) (vote : Vote) → Story site known story → is_honest site i ≡ true → has_given site.setup d vote (signs_of (trail_at i story)) ≡ true
      → votes_in site.setup.rules i.shard d vote (log i.shard (steps_of site.setup (story_firsts story))) ≡ true
  given-voted story i d vote story_is honest h =
      let t = trail_at i story in
      let made = made-all site known i story story_is in
      let f = (are-first i.shard story story_is).older i honest refl in
      let own : votes_in site.setup.rules i.shard d vote (seen_log site t) ≡ true =
      ap (λ (n : NodeId). votes_in site.setup.rules n.shard d vote (seen_log site t)) (sym (me-same site i t)) ∙ sym (given-is site i d vote t made) ∙ h in
      let part = subst (λ l. votes_in site.setup.rules i.shard d vote (seen site.setup l) ≡ true) f.is own in
      ap (λ l. votes_in site.setup.rules i.shard d vote l) (log-seen site.setup i.shard (story_firsts story))
      ∙ older-votes site.setup site.setup.rules i.shard d vote (length (own_log i story)) (shard_entries i.shard (story_firsts story)) part
