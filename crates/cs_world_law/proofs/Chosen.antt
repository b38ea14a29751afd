-- Between its events a node has executed what its order chose, slot by slot, each action in its place.
use Rattle.std.proofs.Common.{◌≡◌, ℕ, zero, suc, ◌+◌, ◌<◌, ◌==◌, Bool, true, false, if◌then◌else◌, List, [], ◌∷◌, ◌++◌, length, map, Some, refl, sym, ap, ◌∙◌, subst, arith, append_assoc}
use Rattle.std.specs.Prelude.{slice_get, take}
use Rattle.std.proofs.lemmas.List.{append-nil, length-append, length_push, map-append}
use Rattle.cs_base.specs.declared.node_id.NodeId.{NodeId}
use Rattle.cs_tx_types.specs.declared.action.Action.{Action}
use Rattle.cs_tx_types.specs.declared.entry.Entry.{Entry}
use Rattle.cs_order.specs.declared.proposed.Proposed.{Proposed}
use Rattle.cs_order.specs.laws.Lists.{slice_get-left}
use Rattle.cs_order.specs.declared.answers.Step.TheVariants.{Chosen, Moved, Quiet}
use Rattle.cs_order.specs.Deeds.{Deed, Took_in, Advanced, Echoed, Proposing, Ticked, Resent, Replied, Cut, Member, chosen_in}
use Rattle.cs_node_rules.specs.Signs.{Dropped, Took, Entered, Viewed, Did, Headed, Kept, Sent}
use Rattle.cs_node_rules.specs.Site.{Mark, In, Ordered, Plain, Site, signs_of}
use Rattle.cs_node_rules.specs.World.{Execution}
use Rattle.cs_ledger.specs.Table.{Effect}
use Rattle.cs_node_rules.proofs.Entries.{some-action}
use Rattle.cs_node_law.specs.Made.{view_at, log_in, actions_in, NodeExecutes, AllMade, IsLevel}
use Rattle.cs_world_law.specs.Steps.{executions_in, Run}
use Rattle.cs_world_law.specs.Orders.{with_run, slots_done, proposed_in, runs_done, runs_from, runs_of}
use Rattle.cs_world_law.specs.Chain.{Known, IsSoundSite}
use Rattle.cs_world_law.proofs.Agree.{run_at, placed-now}
use Rattle.cs_world_law.proofs.Logged.{executions-count}
use Rattle.cs_world_law.proofs.Deeds.{deeds_in, member-is}
use Rattle.cs_world_law.proofs.Trails.{AllWithin}
use Rattle.cs_world_law.proofs.Local.{chosen-listed, local}

-- ---- lists

-- what stands behind a front
seam : {X : Type 0} (xs ys : List X) (x : X) → slice_get (xs ++ ys) (length xs) ≡ Some x → (more : List X) × (ys ≡ x ∷ more)
seam {X} [] [] x e = absurd cc
seam {X} [] (y ∷ ys) x e = (ys, (let same : y ≡ x = cc in ap (λ z. z ∷ ys) same))
seam {X} (z ∷ xs) ys x e = seam xs ys x e

get-behind : {X : Type 0} (xs ys : List X) (n : ℕ) → slice_get (xs ++ ys) (length xs + n) ≡ slice_get ys n
get-behind {X} [] ys n = let none : 0 + n ≡ n = omega arith in ap (λ (k : ℕ). slice_get ys k) none
get-behind {X} (x ∷ xs) ys n =
    let next : length (x ∷ xs) + n ≡ suc (length xs + n) = omega arith in
    ap (λ (k : ℕ). slice_get (x ∷ (xs ++ ys)) k) next ∙ get-behind xs ys n

none-left : {X : Type 0} (front rest : List X) → length (front ++ rest) ≡ length front → rest ≡ []
none-left {X} front [] e = refl
none-left {X} front (x ∷ rest) e = absurd (omega (arith, length-append front (x ∷ rest), e))

-- ---- what was chosen

-- what was chosen stays, in front
chosen-more : {M : Type 0} (deed : Deed M) (deeds : List (Deed M)) → (more : List Proposed) × (chosen_in (deed ∷ deeds) ≡ chosen_in deeds ++ more)
chosen-more {M} (Advanced (Chosen p) sent) deeds = (p ∷ [], refl)
chosen-more {M} (Advanced Moved sent) deeds = ([], sym (append-nil (chosen_in deeds)))
chosen-more {M} (Advanced Quiet sent) deeds = ([], sym (append-nil (chosen_in deeds)))
chosen-more {M} (Took_in from m) deeds = ([], sym (append-nil (chosen_in deeds)))
chosen-more {M} (Echoed sent) deeds = ([], sym (append-nil (chosen_in deeds)))
chosen-more {M} (Proposing entry sent) deeds = ([], sym (append-nil (chosen_in deeds)))
chosen-more {M} (Ticked due sent) deeds = ([], sym (append-nil (chosen_in deeds)))
chosen-more {M} (Resent sent) deeds = ([], sym (append-nil (chosen_in deeds)))
chosen-more {M} (Replied slot to sent) deeds = ([], sym (append-nil (chosen_in deeds)))
chosen-more {M} (Cut slot) deeds = ([], sym (append-nil (chosen_in deeds)))

-- ---- in their places

runs-append : (slot : ℕ) (a b : List Entry) → runs_of slot (a ++ b) ≡ runs_of slot a ++ runs_of (slot + length a) b
runs-append slot [] b = let e : slot ≡ slot + 0 = omega arith in ap (λ (n : ℕ). runs_of n b) e
runs-append slot (entry ∷ a) b =
    let e : suc slot + length a ≡ slot + length (entry ∷ a) = omega arith in
    let first = runs_from slot 0 entry.actions in
    ap (λ (l : List Run). first ++ l) (runs-append (suc slot) a b ∙ ap (λ (n : ℕ). runs_of (suc slot) a ++ runs_of n b) e)
    ∙ sym (append_assoc first (runs_of (suc slot) a) (runs_of (slot + length (entry ∷ a)) b))

from-count : (slot place : ℕ) (actions : List Action) → length (runs_from slot place actions) ≡ length actions
from-count slot place [] = refl
from-count slot place (action ∷ more) = ap suc (from-count slot (suc place) more)

from-got : (slot start place : ℕ) (actions : List Action) (action : Action) → slice_get actions place ≡ Some action → slice_get (runs_from slot start actions) place ≡ Some (run_at slot (start + place) action)
from-got slot start place [] action e = absurd cc
from-got slot start zero (first ∷ more) action e =
    let same : first ≡ action = cc in
    let none : start ≡ start + 0 = omega arith in
    λ i. Some (run_at slot (none i) (same i))
from-got slot start (suc place) (first ∷ more) action e =
    let next : suc start + place ≡ start + suc place = omega arith in
    from-got slot (suc start) place more action e ∙ ap (λ (n : ℕ). Some (run_at slot n action)) next

done-count : (executions : List Execution) → length (runs_done executions) ≡ length executions
done-count [] = refl
done-count (e ∷ earlier) = omega (arith, done-count earlier, length_push (runs_done earlier) (run_at e.slot e.place e.entry))

module _ {M : Type 0} (site : Site M) where
  abbrev placed : ℕ → List Proposed → List Run
  placed slot chosen = runs_of slot (map site.entry_in chosen)

  placed-count : (slot : ℕ) (chosen : List Proposed) → length (placed slot chosen) ≡ length (actions_in site chosen)
  placed-count slot [] = refl
  placed-count slot (p ∷ chosen) =
      let actions = (site.entry_in p).actions in
      omega (
        arith,
        length-append (runs_from slot 0 actions) (placed (suc slot) chosen),
        from-count slot 0 actions,
        placed-count (suc slot) chosen,
        length-append actions (actions_in site chosen),
      )

  -- an action of what was chosen stands in its place, behind those of the entries before its own
  placed-got : (from slot place : ℕ) (chosen : List Proposed) (p : Proposed) (action : Action) → slice_get chosen slot ≡ Some p
      → slice_get (site.entry_in p).actions place ≡ Some action → slice_get (placed from chosen) (length (actions_in site (take slot chosen)) + place) ≡ Some (run_at (from + slot) place action)
  placed-got from slot place [] p action there within = absurd cc
  placed-got from zero place (q ∷ chosen) p action there within =
      let same : q ≡ p = cc in
      let none : 0 + place ≡ place = omega arith in
      let here : from ≡ from + 0 = omega arith in
      let actions = (site.entry_in q).actions in
      let inside = ap (λ (z : Proposed). slice_get (site.entry_in z).actions place) same ∙ within in
      ap (λ (n : ℕ). slice_get (placed from (q ∷ chosen)) n) none
      ∙ slice_get-left (runs_from from 0 actions) (placed (suc from) chosen) place (run_at from (0 + place) action) (from-got from 0 place actions action inside)
      ∙ (λ i. Some (run_at (here i) (none i) action))
  placed-got from (suc slot) place (q ∷ chosen) p action there within =
      let actions = (site.entry_in q).actions in
      let first = runs_from from 0 actions in
      let rest = actions_in site (take slot chosen) in
      let behind : length (actions ++ rest) + place ≡ length first + (length rest + place) = omega (arith, length-append actions rest, from-count from 0 actions) in
      let slots : suc from + slot ≡ from + suc slot = omega arith in
      ap (λ (n : ℕ). slice_get (first ++ placed (suc from) chosen) n) behind
      ∙ get-behind first (placed (suc from) chosen) (length rest + place)
      ∙ placed-got (suc from) slot place chosen p action there within
      ∙ ap (λ (n : ℕ). Some (run_at n place action)) slots

-- the front of what was chosen was executed
record IsFront {M : Type 0} (site : Site M) (chosen : List Proposed) (executions : List Execution) : Type 0 where
  pub rest : List Run
  pub is : placed site 0 chosen ≡ runs_done executions ++ rest

module _ {M : Type 0} (site : Site M) (me : NodeId) where
  abbrev Executions : List (Mark M) → List Execution
  Executions t = executions_in me.shard (signs_of t)

  abbrev FrontAt : List (Mark M) → Type 0
  FrontAt t = IsFront site (chosen_in (deeds_in t)) (Executions t)

  count-at : (t : List (Mark M)) → length (runs_done (Executions t)) ≡ length (log_in (signs_of t))
  count-at t = done-count (Executions t) ∙ executions-count me.shard (signs_of t)

  front-deed : (deed : Deed M) (t : List (Mark M)) → FrontAt t → FrontAt (Ordered deed ∷ t)
  front-deed deed t f =
      let more = chosen-more deed (deeds_in t) in
      let before = map site.entry_in (chosen_in (deeds_in t)) in
      let after = map site.entry_in more.0 in
      let new = runs_of (0 + length before) after in
      record {
        rest = f.rest ++ new;
        is = ap (λ (l : List Proposed). placed site 0 l) more.1
            ∙ ap (λ (l : List Entry). runs_of 0 l) (map-append site.entry_in (chosen_in (deeds_in t)) more.0)
            ∙ runs-append 0 before after
            ∙ ap (λ (l : List Run). l ++ new) f.is
            ∙ append_assoc (runs_done (Executions t)) f.rest new;
      }

  -- the next of what was chosen was executed
  front-did : (t : List (Mark M)) (slot place : ℕ) (action : Action) (effect : Effect) → FrontAt t → NodeExecutes site (view_at site me t) (signs_of t) slot place action effect
      → FrontAt (Plain (Did slot place action effect) ∷ t)
  front-did t slot place action effect f e =
      let done = runs_done (Executions t) in
      let chosen = chosen_in (deeds_in t) in
      let now = placed-now site me t slot place action effect e in
      let here : 0 + slot ≡ slot = omega arith in
      let there : slice_get (placed site 0 chosen) (length done) ≡ Some (run_at slot place action) =
      ap (λ (n : ℕ). slice_get (placed site 0 chosen) n) (count-at t ∙ now.number_is)
      ∙ placed-got site 0 slot place chosen now.proposed action now.there now.within
      ∙ ap (λ (n : ℕ). Some (run_at n place action)) here in
      let behind = seam done f.rest (run_at slot place action) (subst (λ (l : List Run). slice_get l (length done) ≡ Some (run_at slot place action)) f.is there) in
      record {
        rest = behind.0;
        is = f.is ∙ ap (λ (l : List Run). done ++ l) behind.1 ∙ sym (append_assoc done (run_at slot place action ∷ []) behind.0);
      }

  front-of : (t : List (Mark M)) → AllMade site me t → FrontAt t
  front-of [] made = record { rest = []; is = refl }
  front-of (In input ∷ t) made = front-of t made.1
  front-of (Ordered deed ∷ t) made = front-deed deed t (front-of t made.1)
  front-of (Plain (Dropped cause) ∷ t) made = front-of t made.1
  front-of (Plain (Took sender vote x) ∷ t) made = front-of t made.1
  front-of (Plain (Entered x) ∷ t) made = front-of t made.1
  front-of (Plain (Viewed slot view) ∷ t) made = front-of t made.1
  front-of (Plain (Headed number head) ∷ t) made = front-of t made.1
  front-of (Plain (Kept index checkpoint) ∷ t) made = front-of t made.1
  front-of (Plain (Sent to said) ∷ t) made = front-of t made.1
  front-of (Plain (Did slot place action effect) ∷ t) made = front-did t slot place action effect (front-of t made.1) made.0

  -- all of it, between events
  pub executes-chosen : (t : List (Mark M)) → IsLevel site me t → runs_done (Executions t) ≡ placed site 0 (chosen_in (view_at site me t).member.deeds)
  executes-chosen t level =
      let done = runs_done (Executions t) in
      let chosen = chosen_in (view_at site me t).member.deeds in
      let f = front-of t level.made in
      let here : chosen ≡ chosen_in (deeds_in t) = ap (λ (h : Member M). chosen_in h.deeds) (member-is site me t) in
      let whole : placed site 0 chosen ≡ done ++ f.rest = ap (λ (l : List Proposed). placed site 0 l) here ∙ f.is in
      let none = none-left done f.rest (sym (ap length whole) ∙ placed-count site 0 chosen ∙ level.executed ∙ sym (count-at t)) in
      sym (whole ∙ ap (λ (l : List Run). done ++ l) none ∙ append-nil done)

-- ---- as it was proposed

abbrev Slots : Type 0
Slots = List (ℕ × List Action)

-- one run after the other
abbrev grouped : Slots → List Run → Slots
grouped done [] = done
grouped done (run ∷ more) = grouped (with_run run.slot run.action done) more

grouped-append : (done : Slots) (a b : List Run) → grouped done (a ++ b) ≡ grouped (grouped done a) b
grouped-append done [] b = refl
grouped-append done (run ∷ a) b = grouped-append (with_run run.slot run.action done) a b

slots-grouped : (executions : List Execution) → slots_done executions ≡ grouped [] (runs_done executions)
slots-grouped [] = refl
slots-grouped (e ∷ earlier) =
    ap (with_run e.slot e.entry) (slots-grouped earlier)
    ∙ sym (grouped-append [] (runs_done earlier) (run_at e.slot e.place e.entry ∷ []))

-- further actions of the newest slot
same-slot : (slot place : ℕ) (first more : List Action) (done : Slots) → grouped ((slot, first) ∷ done) (runs_from slot place more) ≡ (slot, first ++ more) ∷ done
same-slot slot place first [] done = ap (λ (l : List Action). (slot, l) ∷ done) (sym (append-nil first))
same-slot slot place first (action ∷ more) done =
    let here : (slot == slot) ≡ true = grind arith in
    let now : with_run slot action ((slot, first) ∷ done) ≡ (slot, first ++ action ∷ []) ∷ done =
    ap (λ (b : Bool). if b then (slot, first ++ action ∷ []) ∷ done else (slot, action ∷ []) ∷ (slot, first) ∷ done) here in
    ap (λ (d : Slots). grouped d (runs_from slot (suc place) more)) now
    ∙ same-slot slot (suc place) (first ++ action ∷ []) more done
    ∙ ap (λ (l : List Action). (slot, l) ∷ done) (append_assoc first (action ∷ []) more)

-- all slots are below this one
abbrev AreBelow : ℕ → Slots → Type 0
AreBelow slot [] = Unit {0}
AreBelow slot (s ∷ done) = s.0 < slot

new-slot : (slot : ℕ) (action : Action) (done : Slots) → AreBelow slot done → with_run slot action done ≡ (slot, action ∷ []) ∷ done
new-slot slot action [] below = refl
new-slot slot action (s ∷ done) below =
    let other : (s.0 == slot) ≡ false = grind (arith, below) in
    ap (λ (b : Bool). if b then (s.0, s.1 ++ action ∷ []) ∷ done else (slot, action ∷ []) ∷ s ∷ done) other

next-slots : (slot : ℕ) (actions : List Action) (done : Slots) → 0 < length actions → AreBelow slot done → grouped done (runs_from slot 0 actions) ≡ (slot, actions) ∷ done
next-slots slot [] done some below = absurd (omega (arith, some))
next-slots slot (action ∷ more) done some below =
    ap (λ (d : Slots). grouped d (runs_from slot 1 more)) (new-slot slot action done below)
    ∙ same-slot slot 1 (action ∷ []) more done

module _ {M : Type 0} (site : Site M) (some : (p : Proposed) → 0 < length (site.entry_in p).actions) where
  -- what is read of an entry and proposed again is the entry
  abbrev Again : List Proposed → Type 0
  Again chosen = (slot : ℕ) (p : Proposed) → slice_get chosen slot ≡ Some p → site.proposed_of (site.entry_in p) ≡ p

  proposed-again : (slot : ℕ) (chosen : List Proposed) (done : Slots) → AreBelow slot done → Again chosen
      → proposed_in site (grouped done (runs_of slot (map site.entry_in chosen))) ≡ proposed_in site done ++ chosen
  proposed-again slot [] done below again = sym (append-nil (proposed_in site done))
  proposed-again slot (p ∷ chosen) done below again =
      let actions = (site.entry_in p).actions in
      let rest = runs_of (suc slot) (map site.entry_in chosen) in
      let now : Slots = (slot, actions) ∷ done in
      let under : slot < suc slot = omega arith in
      ap (proposed_in site) (grouped-append done (runs_from slot 0 actions) rest ∙ ap (λ (d : Slots). grouped d rest) (next-slots slot actions done (some p) below))
      ∙ proposed-again (suc slot) chosen now under (λ n q e. again (suc n) q e)
      ∙ append_assoc (proposed_in site done) (site.proposed_of (site.entry_in p) ∷ []) chosen
      ∙ ap (λ (q : Proposed). proposed_in site done ++ (q ∷ chosen)) (again 0 p refl)

module _ {M : Type 0} (site : Site M) (sound : IsSoundSite site) (known : Known) (me : NodeId) where
  pub executed-log : (t : List (Mark M)) → IsLevel site me t → AllWithin site known me t
      → proposed_in site (slots_done (executions_in me.shard (signs_of t))) ≡ chosen_in (view_at site me t).member.deeds
  executed-log t level within =
      let l = local site sound known me t level.made within in
      let chosen = chosen_in (view_at site me t).member.deeds in
      let all : (slot : ℕ) (p : Proposed) → slice_get chosen slot ≡ Some p → site.proposed_of (site.entry_in p) ≡ p =
      (λ slot p there.
      let k = chosen-listed site sound known me t slot p level.made l there in
      let reads : site.entry_in p ≡ k.entry = ap site.entry_in k.is ∙ sound.reads k.entry k.fits in
      ap site.proposed_of reads ∙ sound.proposes k.entry ∙ sym k.is) in
      ap (proposed_in site) (slots-grouped (executions_in me.shard (signs_of t)) ∙ ap (grouped []) (executes-chosen site me t level))
      ∙ proposed-again site (λ p. some-action site.setup.version (site.entry_in p) (sound.read p)) 0 chosen [] tt all
