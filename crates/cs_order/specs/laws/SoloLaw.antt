-- The law for a single member.
use Rattle.std.proofs.Common.{◌≡◌, ℕ, ◌+◌, ◌*◌, ◌==◌, ◌<◌, ◌^◌, nat_lt, Bool, true, false, if◌then◌else◌, List, [], ◌∷◌, ◌++◌, length, Option, Some, None, slice_get, ◌⊎◌, inl, inr, refl, sym, ◌∙◌, subst, arith, length-append, ltb-true}
use Rattle.std.proofs.lemmas.Bool.Decides.{eqb_tells}
use Rattle.cs_order.specs.declared.proposed.Proposed.{Proposed}
use Rattle.cs_order.specs.declared.answers.Step.{Step}
use Rattle.cs_order.specs.declared.answers.Step.TheVariants as step
use Rattle.cs_order.specs.declared.answers.May.TheVariants as may
use Rattle.cs_base.specs.Lists.{IsIn}
use Rattle.cs_order.specs.laws.Lists.{IsIn-right, slice_get-push}
use Rattle.cs_order.specs.Limits.{last_slot}
use Rattle.cs_order.specs.Deeds.{Deed, Member, Machine, sent_by, chosen_by, chosen_in}
use Rattle.cs_order.specs.Deeds as deed
use Rattle.cs_order.specs.Calls.{Proposable}
use Rattle.cs_order.specs.Runs.{Act, KeepsRules, AllKeepRules, IsFor, IsRun, deeds_of, member_of, entries_handed_in, held_in}
use Rattle.cs_order.specs.Law.{Law, Admits, Admitted, HasChosen, Undisturbed, ComesToRest, Holds}
use Rattle.cs_order.specs.Solo.{solo, SoloStands, SoloStarts, solo_rest, solo_turns, waiting_of, solo_step_at, may_at}

-- whoever has chosen is an honest member
pub is_member : {M : Type 0} (m : Machine M) (f : ℕ) (honest : ℕ → Bool) (past : List (Act M)) → IsRun m f honest past → (i slot : ℕ) (a : Proposed) → HasChosen i slot a past → (i < 3 * f + 1) × (honest i ≡ true)
is_member m f honest [] run i slot a h = absurd (let none = h in cc)
is_member m f honest (act ∷ past) run i slot a h =
    elim (eqb_tells act.member i) [
      | inl e ↦ (rw (← e.1) run.0.is_member, rw (← e.1) run.0.is_honest)
      | inr e ↦ is_member m f honest past run.1 i slot a (rw e.0 at h)
    ]

-- what is chosen was waiting
was_waiting : (slot : ℕ) (o : Option Proposed) (e : Proposed) → solo_step_at slot o ≡ step.Chosen e → o ≡ Some e
was_waiting slot None e h = cc
was_waiting slot (Some x) e h = by_room (nat_lt slot (last_slot)) h
  where
    by_room : (b : Bool) → (if b then step.Chosen x else step.Quiet) ≡ step.Chosen e → Some x ≡ Some e
    by_room true k = cc
    by_room false k = cc

module _ {M : Type 0} (f : ℕ) (honest : ℕ → Bool) where
  abbrev Here : Proposed → Member M → Deed M → List (Act M) → Type 0
  Here e h act past = Admits {M = M} solo e h act ⊎ Admitted {M = M} solo f e past

  -- what waits was proposed
  waits_by : (h : Member M) (past : List (Act M)) (act : Deed M) (e : Proposed) → (waiting_of h.deeds ≡ Some e → Admitted {M = M} solo f e past) → waiting_of (act ∷ h.deeds) ≡ Some e → Here e h act past
  waits_by h past (deed.Took_in from m) e before k = inr (before k)
  waits_by h past (deed.Advanced x sent) e before k = absurd (let none = k in cc)
  waits_by h past (deed.Echoed sent) e before k = inr (before k)
  waits_by h past (deed.Proposing p sent) e before k = inl cc
  waits_by h past (deed.Ticked due sent) e before k = inr (before k)
  waits_by h past (deed.Resent sent) e before k = inr (before k)
  waits_by h past (deed.Replied slot to sent) e before k = inr (before k)
  waits_by h past (deed.Cut slot) e before k = inr (before k)

  waiting_admitted : (past : List (Act M)) (i : ℕ) (e : Proposed) → waiting_of (deeds_of i past) ≡ Some e → Admitted {M = M} solo f e past
  waiting_admitted [] i e h = absurd (let none = h in cc)
  waiting_admitted (act ∷ past) i e h =
      elim (eqb_tells act.member i) [
        | inl same ↦ waits_by (member_of f act.member past) past act.deed e (waiting_admitted past act.member e) (subst (λ k. waiting_of (act.deed ∷ deeds_of k past) ≡ Some e) (sym same.1) (rw same.0 at h))
        | inr other ↦ inr (waiting_admitted past i e (rw other.0 at h))
      ]

  -- what is chosen was proposed
  chosen_by_step : (h : Member M) (past : List (Act M)) (x : Step) (sent : List _) (slot : ℕ) (a : Proposed) → KeepsRules {M = M} solo h (deed.Advanced x sent) → (slice_get (chosen_in h.deeds) slot ≡ Some a → Admitted {M = M} solo f a past) → ((e : Proposed) → waiting_of h.deeds ≡ Some e → Admitted {M = M} solo f e past) → slice_get (chosen_in (deed.Advanced x sent ∷ h.deeds)) slot ≡ Some a → Admitted {M = M} solo f a past
  chosen_by_step h past (step.Chosen e) sent slot a keeps before waits k =
      elim (slice_get-push (chosen_in h.deeds) e a slot k) [
        | inl old ↦ before old
        | inr new ↦ subst (λ y. Admitted {M = M} solo f y past) new.1 (waits e (was_waiting (length (chosen_in h.deeds)) (waiting_of h.deeds) e keeps.0))
      ]
  chosen_by_step h past step.Moved sent slot a keeps before waits k = before k
  chosen_by_step h past step.Quiet sent slot a keeps before waits k = before k

  chosen_by_deed : (h : Member M) (past : List (Act M)) (act : Deed M) (slot : ℕ) (a : Proposed) → KeepsRules {M = M} solo h act → (slice_get (chosen_in h.deeds) slot ≡ Some a → Admitted {M = M} solo f a past) → ((e : Proposed) → waiting_of h.deeds ≡ Some e → Admitted {M = M} solo f e past) → slice_get (chosen_in (act ∷ h.deeds)) slot ≡ Some a → Admitted {M = M} solo f a past
  chosen_by_deed h past (deed.Took_in from m) slot a keeps before waits k = before k
  chosen_by_deed h past (deed.Advanced x sent) slot a keeps before waits k = chosen_by_step h past x sent slot a keeps before waits k
  chosen_by_deed h past (deed.Echoed sent) slot a keeps before waits k = before k
  chosen_by_deed h past (deed.Proposing p sent) slot a keeps before waits k = before k
  chosen_by_deed h past (deed.Ticked due sent) slot a keeps before waits k = before k
  chosen_by_deed h past (deed.Resent sent) slot a keeps before waits k = before k
  chosen_by_deed h past (deed.Replied place to sent) slot a keeps before waits k = before k
  chosen_by_deed h past (deed.Cut place) slot a keeps before waits k = before k

  chosen_admitted : (past : List (Act M)) → IsRun {M = M} solo f honest past → (i slot : ℕ) (a : Proposed) → HasChosen i slot a past → Admitted {M = M} solo f a past
  chosen_admitted [] run i slot a h = absurd (let none = h in cc)
  chosen_admitted (act ∷ past) run i slot a h =
      inr (elim (eqb_tells act.member i) [
        | inl same ↦ chosen_by_deed (member_of f act.member past) past act.deed slot a run.0.keeps (chosen_admitted past run.1 act.member slot a) (waiting_admitted past act.member) (subst (λ k. slice_get (chosen_in (act.deed ∷ deeds_of k past)) slot ≡ Some a) (sym same.1) (rw same.0 at h))
        | inr other ↦ chosen_admitted past run.1 i slot a (rw other.0 at h)
      ])

zero_of : (f : ℕ) → (f == 0) ≡ true → f ≡ 0
zero_of f e = grind arith

-- two indices below one are equal
one_index : (f i j : ℕ) → f ≡ 0 → i < 3 * f + 1 → j < 3 * f + 1 → i ≡ j
one_index f i j e a b = omega arith

one_entry : {M : Type 0} (past : List (Act M)) (i j slot : ℕ) (a b : Proposed) → i ≡ j → HasChosen i slot a past → HasChosen j slot b past → a ≡ b
one_entry past i j slot a b e x y = let moved = subst (λ k. HasChosen k slot a past) e x in let q : Some a ≡ Some b = sym moved ∙ y in cc

pub solo_law : {M : Type 0} → Law {M = M} solo
solo_law f honest past serves few run none =
    record {
      agree = λ i j slot a b x y. one_entry past i j slot a b (one_index f i j (zero_of f serves) (is_member solo f honest past run i slot a x).0 (is_member solo f honest past run j slot b y).0) x y;
      admitted = λ i slot a x. chosen_admitted f honest past run i slot a x;
    }

-- what is sent again or cut changes nothing
pub solo_undisturbed : {M : Type 0} → Undisturbed {M = M} solo
solo_undisturbed = record { by_resend = λ h sent. refl; by_reply = λ h slot to sent. refl; by_cut = λ h slot. refl }

module _ {M : Type 0} (f me : ℕ) where
  abbrev IsHeld : Proposed → List (Deed M) → Type 0
  IsHeld e deeds = IsIn e (held_in {M = M} solo deeds)

  more : (e : Proposed) (act : Deed M) (past : List (Deed M)) → IsHeld e past → IsHeld e (act ∷ past)
  more e act past h = IsIn-right e (entries_handed_in solo act) (held_in solo past) h

  -- what waits was handed in
  waiting_held : (deeds : List (Deed M)) (e : Proposed) → waiting_of deeds ≡ Some e → IsHeld e deeds
  waiting_held [] e k = absurd (let none = k in cc)
  waiting_held (deed.Took_in from m ∷ past) e k = waiting_held past e k
  waiting_held (deed.Advanced x sent ∷ past) e k = absurd (let none = k in cc)
  waiting_held (deed.Echoed sent ∷ past) e k = waiting_held past e k
  waiting_held (deed.Proposing p sent ∷ past) e k = inl cc
  waiting_held (deed.Ticked due sent ∷ past) e k = waiting_held past e k
  waiting_held (deed.Resent sent ∷ past) e k = waiting_held past e k
  waiting_held (deed.Replied slot to sent ∷ past) e k = waiting_held past e k
  waiting_held (deed.Cut slot ∷ past) e k = waiting_held past e k

  -- what is chosen was handed in
  step_held : (deeds : List (Deed M)) (x : Step) (slot : ℕ) (a : Proposed) → solo_step_at (length (chosen_in deeds)) (waiting_of deeds) ≡ x → (slice_get (chosen_in deeds) slot ≡ Some a → IsHeld a deeds) → slice_get (chosen_in (deed.Advanced x [] ∷ deeds)) slot ≡ Some a → IsHeld a deeds
  step_held deeds (step.Chosen e) slot a is before k =
      elim (slice_get-push (chosen_in deeds) e a slot k) [
        | inl old ↦ before old
        | inr new ↦ subst (λ y. IsHeld y deeds) new.1 (waiting_held deeds e (was_waiting (length (chosen_in deeds)) (waiting_of deeds) e is))
      ]
  step_held deeds step.Moved slot a is before k = before k
  step_held deeds step.Quiet slot a is before k = before k

  logged_held : (deeds : List (Deed M)) → AllKeepRules {M = M} solo f me deeds → (slot : ℕ) (a : Proposed) → slice_get (chosen_in deeds) slot ≡ Some a → IsHeld a deeds
  logged_held [] kept slot a k = absurd (let none = k in cc)
  logged_held (deed.Took_in from m ∷ past) kept slot a k = logged_held past kept.1 slot a k
  logged_held (deed.Advanced x sent ∷ past) kept slot a k = step_held past x slot a kept.0.0 (logged_held past kept.1 slot a) k
  logged_held (deed.Echoed sent ∷ past) kept slot a k = logged_held past kept.1 slot a k
  logged_held (deed.Proposing p sent ∷ past) kept slot a k = inr (logged_held past kept.1 slot a k)
  logged_held (deed.Ticked due sent ∷ past) kept slot a k = logged_held past kept.1 slot a k
  logged_held (deed.Resent sent ∷ past) kept slot a k = logged_held past kept.1 slot a k
  logged_held (deed.Replied place to sent ∷ past) kept slot a k = logged_held past kept.1 slot a k
  logged_held (deed.Cut place ∷ past) kept slot a k = logged_held past kept.1 slot a k

none_offered : (o : Option Proposed) (entries : List Proposed) → may_at o ≡ may.Only entries → ⊥
none_offered None entries k = cc
none_offered (Some x) entries k = cc

-- a single member hands nothing out
none_handed_out : {M : Type 0} (h : Member M) (act : Deed M) → KeepsRules {M = M} solo h act → (message : M) (to : ℕ) → IsFor message to (sent_by act) → ⊥
none_handed_out h (deed.Took_in from m) keeps message to k = k
none_handed_out h (deed.Advanced x sent) keeps message to k = subst (λ all. IsFor message to all) (sym keeps.2) k
none_handed_out h (deed.Echoed sent) keeps message to k = subst (λ all. IsFor message to all) (sym keeps.1) k
none_handed_out h (deed.Proposing p sent) keeps message to k = subst (λ all. IsFor message to all) (sym keeps.1) k
none_handed_out h (deed.Ticked due sent) keeps message to k = subst (λ all. IsFor message to all) (sym keeps) k
none_handed_out h (deed.Resent sent) keeps message to k = subst (λ all. IsFor message to all) (sym keeps) k
none_handed_out h (deed.Replied slot member sent) keeps message to k = absurd (let none = keeps.1 in cc)
none_handed_out h (deed.Cut slot) keeps message to k = k

pub solo_holds : {M : Type 0} → Holds {M = M} solo
solo_holds {M} =
    record {
      chosen = λ f me deeds kept e k. waiting_held f me deeds e (was_waiting (length (chosen_in deeds)) (waiting_of deeds) e k);
      pending = λ f me deeds kept e k. absurd (let none = k in cc);
      offered = λ f me deeds kept entries e k l. absurd (none_offered (waiting_of deeds) entries k);
      logged = λ f me deeds kept slot e k. logged_held f me deeds kept slot e k;
      sent = λ f me act deeds kept m to k e l. absurd l;
      proper = λ f me act deeds kept have m to k. absurd (none_handed_out (record { f = f; me = me; deeds = deeds }) act kept.0 m to k);
    }

pub solo_begins : {M : Type 0} (first : ℕ) (entries : List Proposed) (waiting : Option Proposed) → SoloStarts first entries waiting → SoloStands {M = M} first entries waiting (record { f = 0; me = 0; deeds = [] })
solo_begins {M} first entries waiting start =
    record {
      f = refl;
      me = refl;
      first_is = sym start.none_cut;
      keeps = record { within = (let e = start.none_cut in omega arith); entries_are = rw (start.none_cut, start.no_log) refl };
      waiting_is = sym start.none_waits;
    }

pub solo_bounded : (slot : ℕ) (waiting : Option Proposed) → solo_rest slot waiting < 2 ^ 80
solo_bounded slot None = omega arith
solo_bounded slot (Some entry) = omega arith

-- one slot more, where an entry is chosen
advance_lowers : (log : List Proposed) (waiting : Option Proposed) → (solo_step_at (length log) waiting ≡ step.Quiet → ⊥) → solo_rest (length (chosen_by (solo_step_at (length log) waiting) log)) None < solo_rest (length log) waiting
advance_lowers log None moves = absurd (moves refl)
advance_lowers log (Some e) moves = by_room (nat_lt (length log) last_slot) refl moves
  where
    by_room : (b : Bool) → nat_lt (length log) last_slot ≡ b → ((if b then step.Chosen e else step.Quiet) ≡ step.Quiet → ⊥) → solo_rest (length (chosen_by (if b then step.Chosen e else step.Quiet) log)) None < solo_rest (length log) (Some e)
    by_room true room moves =
        let longer : length (log ++ e ∷ []) ≡ length log + 1 = simp length-append refl in
        let below = ltb-true (length log) last_slot room in
        omega arith
    by_room false room moves = absurd (moves refl)

propose_lowers : (slot : ℕ) (waiting : Option Proposed) (e : Proposed) → Proposable (may_at waiting) e → solo_rest slot (Some e) < solo_rest slot waiting
propose_lowers slot None e may = omega arith
propose_lowers slot (Some x) e may = absurd may

pub solo_comes_to_rest : {M : Type 0} → ComesToRest {M = M} solo solo_turns
solo_comes_to_rest {M} = record {
  start = λ f me. refl;
  advanced = λ h moves. advance_lowers (chosen_in h.deeds) (waiting_of h.deeds) moves;
  echoed = λ h some. absurd (let none = some in cc);
  proposed = λ h e may. propose_lowers (length (chosen_in h.deeds)) (waiting_of h.deeds) e may;
  cut = λ h slot. let z : ℕ = 0 in omega arith;
  bounded = λ h. solo_bounded (length (chosen_in h.deeds)) (waiting_of h.deeds);
}
