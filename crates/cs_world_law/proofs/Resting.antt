-- A member at which no rule applies has done what it may.
use Rattle.std.proofs.Common.{◌≡◌, ℕ, suc, ◌+◌, ◌*◌, ◌<◌, ◌≤◌, nat_lt, ◌==◌, Bool, true, false, not, ◌||◌, if◌then◌else◌, List, [], ◌∷◌, length, Option, Some, None, is_some, ◌⊎◌, inl, inr, refl, sym, ap, ◌∙◌, subst, arith, lt-ltb}
use Rattle.std.specs.Prelude.{bytes_eq}
use Rattle.std.specs.List.{list_any, filter}
use Rattle.std.proofs.lemmas.Bool.{and_from, or_left, or_right, eq-eqb}
use Rattle.cs_base.specs.declared.limits.TheConstants.{MOST_ECHOED}
use Rattle.cs_order.specs.Counts.{when}
use Rattle.cs_order.specs.Limits.{last_slot}
use Rattle.cs_order.specs.Deeds.{Machine}
use Rattle.cs_base.specs.Lists.{IsIn}
use Rattle.cs_order.specs.declared.proposed.Proposed.{Proposed}
use Rattle.cs_order.specs.declared.answers.Step.{Step}
use Rattle.cs_order.specs.declared.answers.Step.TheVariants as step
use Rattle.cs_order_rules.specs.declared.message.OrderMessage.{OrderMessage}
use Rattle.cs_order_rules.specs.declared.message.OrderMessage.TheVariants as message
use Rattle.cs_order_rules.specs.Facts.{Sight, open_slot, echo_said, confirm_said, done_said, first_of}
use Rattle.cs_order_rules.specs.Safe.{SafeAt}
use Rattle.cs_order_rules.specs.Slot.{is_digest, votes, with_digest}
use Rattle.cs_order_rules.specs.Rules.{proposal, change_of, own, seen_now, echoed_in, choice, view_to_enter, confirming, step_by, may_echo, if_may_echo, pending, safe, has_echo_place}
use Rattle.cs_order_rules.specs.SlotMachine.{slot_machine, sight}
use Rattle.cs_order_law.specs.laws.Quorum.{meet}
use Rattle.cs_order_law.specs.laws.SlotFacts.{first_of_is, confirm_said_is}
use Rattle.cs_order_law.specs.laws.RuleFacts.{said_echo}
use Rattle.cs_order_law.specs.laws.Exact.{count_none, none_chosen, none_to_confirm}
use Rattle.cs_order_law.specs.laws.Sound.{Sound}
use Rattle.cs_ledger.proofs.Basics.{bytes_from}
use Rattle.cs_change.proofs.Readable.{safe_at}
use Rattle.cs_node_rules.specs.Site.{Site, View}
use Rattle.cs_node_rules.specs.Trail.{admits_proposed, step_marks, echo_marks}
use Rattle.cs_world_law.specs.Agreement.{others_echoed, MayBeEchoed, IsProposed, EntryIsDone, Agrees}
use Rattle.cs_world_law.proofs.OneEcho.{OneEcho}

-- ---- a member that has no step to take

none_by : (c : Option Proposed) (w : Option ℕ) (d : Option (List ℕ)) → step_by c w d ≡ step.Quiet → (c ≡ None) × (d ≡ None)
none_by (Some e) w d h = cc
none_by None (Some w) d h = cc
none_by None None (Some d) h = cc
none_by None None None h = (refl, refl)

of_some : {A : Type 0} (o : Option A) → is_some o ≡ true → (x : A) × (o ≡ Some x)
of_some None h = cc
of_some (Some x) h = (x, refl)

-- ---- what may be echoed is pending

filter_on : (d : List ℕ) (line : List ℕ × ℕ) (lines : List (List ℕ × ℕ)) → bytes_eq line.0 d ≡ false
    → length (filter (λ (other : List ℕ × ℕ). not (bytes_eq other.0 d)) (line ∷ lines)) ≡ suc (length (filter (λ (other : List ℕ × ℕ). not (bytes_eq other.0 d)) lines))
filter_on d line lines differs = rw differs refl

neither : (a b : Bool) → (a || b) ≡ false → (a ≡ false) × (b ≡ false)
neither false false h = (refl, refl)
neither false true h = cc
neither true b h = cc

-- where the digest isn't listed all lines are of others
all_others : (d : List ℕ) (lines : List (List ℕ × ℕ)) → list_any (λ (line : List ℕ × ℕ). bytes_eq line.0 d) lines ≡ false
    → length (filter (λ (line : List ℕ × ℕ). not (bytes_eq line.0 d)) lines) ≡ length lines
all_others d [] h = refl
all_others d (line ∷ lines) h =
    let parts = neither (bytes_eq line.0 d) (list_any (λ (other : List ℕ × ℕ). bytes_eq other.0 d) lines) h in
    filter_on d line lines parts.0 ∙ ap suc (all_others d lines parts.1)

abbrev lines_of : Sight → List (List ℕ × ℕ)
lines_of s = echoed_in s.me (open_slot s) s.taken

placed : (s : Sight) (d : List ℕ) → others_echoed s d < MOST_ECHOED → has_echo_place s d ≡ true
placed s d few = by_listed (list_any (λ (line : List ℕ × ℕ). bytes_eq line.0 d) (lines_of s)) refl
  where
    by_listed : (b : Bool) → list_any (λ (line : List ℕ × ℕ). bytes_eq line.0 d) (lines_of s) ≡ b → has_echo_place s d ≡ true
    by_listed true listed = or_right (nat_lt (length (lines_of s)) MOST_ECHOED) _ listed
    by_listed false listed = or_left _ _ (lt-ltb (length (lines_of s)) MOST_ECHOED (subst (λ n. n < MOST_ECHOED) (all_others d (lines_of s) listed) few))

safe_said : (s : Sight) (d : List ℕ) → (s.view ≡ 0) ⊎ SafeAt s.f (change_of s s.view) s.view d → ((s.view == 0) || safe s d) ≡ true
safe_said s d (inl first) = or_left (s.view == 0) (safe s d) (eq-eqb s.view 0 first)
safe_said s d (inr at) = or_right (s.view == 0) (safe s d) ((safe_at s.f (change_of s s.view) s.view d (safe s d) refl).1 at)

not_some : {A : Type 0} (o : Option A) → o ≡ None → not (is_some o) ≡ true
not_some None h = refl
not_some (Some x) h = cc

when_true : {A : Type 0} (b : Bool) (x : A) → b ≡ true → when b (Some x) ≡ Some x
when_true true x h = refl
when_true false x h = cc

waits : (admits : Proposed → Bool) (s : Sight) (e : Proposed) → MayBeEchoed admits s e → own echo_said s ≡ None → pending s ≡ Some e
waits admits s e may none =
    ap (if_may_echo s) may.proposed
    ∙ when_true (may_echo s e) e
    (and_from _ _ (and_from _ _ (safe_said s e.digest may.safe) (not_some (own echo_said s) none)) (placed s e.digest may.few))

-- ---- at a node at which no rule applies

module _ (site : Site OrderMessage) (v : View OrderMessage) where
  quiet_step : (x : Step) → step_marks site v x ≡ None → x ≡ step.Quiet
  quiet_step (step.Chosen e) h = cc
  quiet_step step.Moved h = cc
  quiet_step step.Quiet h = refl

  no_echo : (x : Step) → step_marks site v x ≡ None → echo_marks site v (site.machine.pending v.member) ≡ None
  no_echo (step.Chosen e) h = cc
  no_echo step.Moved h = cc
  no_echo step.Quiet h = h

  if_none : {A : Type 0} (b : Bool) (x : A) (o : Option A) → (if b then Some x else o) ≡ None → b ≡ true → ⊥
  if_none true x o h e = cc
  if_none false x o h e = cc

  not_admitted : (o : Option Proposed) → echo_marks site v o ≡ None → (e : Proposed) → o ≡ Some e → admits_proposed site v e ≡ true → ⊥
  not_admitted None h e is admitted = cc
  not_admitted (Some p) h e is admitted =
      let same : p ≡ e = cc in
      if_none (admits_proposed site v p) _ _ h (ap (λ x. admits_proposed site v x) same ∙ admitted)

  module _ (machine_is : site.machine ≡ slot_machine) (none : step_marks site v (site.machine.step v.member) ≡ None) where
    abbrev s : Sight
    s = sight v.member

    still : (choice s ≡ None) × (confirming s ≡ None)
    still = none_by (choice s) (view_to_enter s) (confirming s) (ap (λ (m : Machine OrderMessage). m.step v.member) (sym machine_is) ∙ quiet_step (site.machine.step v.member) none)

    echoed : (e : Proposed) → MayBeEchoed (admits_proposed site v) s e → own echo_said s ≡ Some e.digest
    echoed e may = by_own (own echo_said s) refl
      where
        by_own : (o : Option (List ℕ)) → own echo_said s ≡ o → own echo_said s ≡ Some e.digest
        by_own (Some d) is = is ∙ ap (λ x. Some x) (may.alone d is)
        by_own None is =
            absurd (not_admitted (site.machine.pending v.member) (no_echo (site.machine.step v.member) none) e
            (ap (λ (m : Machine OrderMessage). m.pending v.member) machine_is ∙ waits (admits_proposed site v) s e may is) may.admitted)

    confirmed : Sound s → OneEcho s → (d : List ℕ) → 2 * s.f + 1 ≤ votes s.f ((seen_now s).echo s.view) d → own confirm_said s ≡ Some d
    confirmed sound one d enough =
        let x = of_some (own confirm_said s) (none_to_confirm (seen_now s) still.1 d enough) in
        let fact = first_of_is (confirm_said (open_slot s) s.view) s.taken s.me x.0 x.1 in
        let is = confirm_said_is (open_slot s) s.view x.0 fact.0 fact.2 in
        let echoes = sound.confirm_echoed (open_slot s) s.view x.0 (subst (λ m. IsIn (s.me, m) s.taken) is fact.1) in
        let no_liars = count_none (3 * s.f + 1) in
        let m = meet (3 * s.f + 1) echoes.0 (λ k. is_digest d ((seen_now s).echo s.view k)) (λ k. true) (let a = echoes.1 in omega arith) in
        x.1 ∙ ap (λ y. Some y) (one m.0 (open_slot s) s.view x.0 d (echoes.2 m.0 m.2) (said_echo s s.view m.0 d m.3))

    found_none : (o : Option Proposed) (e : Proposed) (d : List ℕ) → with_digest d o ≡ None → o ≡ Some e → e.digest ≡ d → ⊥
    found_none None e d h is same = cc
    found_none (Some p) e d h is same =
        let here : p.digest ≡ d = (let q : p ≡ e = cc in ap (λ (z : Proposed). z.digest) q ∙ same) in
        (let found = when_true (bytes_eq p.digest d) p (bytes_from p.digest d here) in let q : Some p ≡ None = sym found ∙ h in cc)

    chosen : open_slot s < last_slot → (view : ℕ) (d : List ℕ) → view < s.views → 2 * s.f + 1 ≤ votes s.f ((seen_now s).confirm view) d → IsProposed s d ⊎ EntryIsDone s d → ⊥
    chosen room view d below enough known =
        let gone = none_chosen (seen_now s) room still.0 view d below enough in
        elim known [
          | inl p ↦ found_none (proposal s p.0) p.2.0 d (gone.0 p.0 p.1) p.2.1 p.2.2
          | inr p ↦ found_none (first_of (done_said (open_slot s)) s.taken p.0) p.2.0 d (gone.1 p.0 p.1) p.2.1 p.2.2
        ]

    -- and where what it echoed and confirmed was told, that was
    pub agrees : (IsTold : OrderMessage → Type 0) → ((d : List ℕ) → own echo_said s ≡ Some d → IsTold (message.Echo (open_slot s) s.view d))
        → ((d : List ℕ) → own confirm_said s ≡ Some d → IsTold (message.Confirm (open_slot s) s.view d)) → Sound s → OneEcho s → Agrees (admits_proposed site v) IsTold s
    agrees IsTold of_echo of_confirm sound one = record {
      echoed = λ e may. (let is = echoed e may in (is, of_echo e.digest is));
      confirmed = λ d enough. (let is = confirmed sound one d enough in (is, of_confirm d is));
      chosen = chosen;
    }
