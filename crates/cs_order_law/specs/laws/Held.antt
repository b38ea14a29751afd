-- What a member gives was handed in.
use Rattle.std.proofs.Common.{◌≡◌, ℕ, ◌+◌, ◌*◌, ◌==◌, Bool, true, false, not, ◌||◌, if◌then◌else◌, is_some, List, [], ◌∷◌, Option, Some, None, slice_get, inl, inr, refl, sym, ap, ◌∙◌, subst, arith}
use Rattle.cs_base.specs.Lists.{IsIn}
use Rattle.cs_order.specs.laws.Lists.{IsIn-right, slice_get-push}
use Rattle.cs_order.specs.Deeds.{Deed, Member}
use Rattle.cs_order.specs.Runs.{AllKeepRules, held_in, entries_handed_in}
use Rattle.cs_order.specs.Law.{Holds}
use Rattle.cs_order.specs.declared.proposed.Proposed.{Proposed}
use Rattle.cs_order.specs.declared.answers.Step.TheVariants as step
use Rattle.cs_order.specs.declared.answers.May.TheVariants as may
use Rattle.std.specs.List.{filter_map, cons_option}
use Rattle.cs_order_rules.specs.declared.message.OrderMessage.{OrderMessage}
use Rattle.cs_order_rules.specs.declared.message.OrderMessage.TheVariants as message
use Rattle.cs_order_law.specs.laws.Quorum.{one_honest}
use Rattle.cs_order_law.specs.laws.Exact.{count_none}
use Rattle.cs_order_rules.specs.Slot.{is_entry, proposal_of}
use Rattle.cs_order_rules.specs.Facts.{open_slot, leader, carried, member_count, proposal_said}
use Rattle.cs_order_rules.specs.Rules.{seen_now, choice, view_to_enter, confirming, own, free, safe, change_of, candidate, candidates, pairs_below}
use Rattle.cs_order_rules.specs.SlotMachine.{slot_machine, sight}
use Rattle.cs_order_law.specs.laws.SlotFacts.{pending_is, if_some}
use Rattle.cs_order_law.specs.laws.RuleFacts.{proposal_of_is, Chooses, IsKnown, choice_is, said_done}
use Rattle.cs_order_law.specs.laws.Sights.{sound, step_chooses}
use Rattle.cs_order_law.specs.laws.Steps.{Vouches, step_of}
use Rattle.cs_order_law.specs.laws.Digests.{facts_held}
use Rattle.cs_order_law.specs.laws.Proper.{handed_out_proper}

abbrev Deeds : Type 0
Deeds = List (Deed OrderMessage)

module _ (f me : ℕ) where
  abbrev at : Deeds → Member OrderMessage
  at deeds = record { f = f; me = me; deeds = deeds }

  abbrev Kept : Deeds → Type 0
  Kept deeds = AllKeepRules slot_machine f me deeds

  abbrev IsHeld : Proposed → Deeds → Type 0
  IsHeld e deeds = IsIn e (held_in slot_machine deeds)

  known_held : (deeds : Deeds) → Kept deeds → (e : Proposed) → IsKnown (sight (at deeds)) (open_slot (sight (at deeds))) e → IsHeld e deeds
  known_held deeds kept e (inl p) = facts_held f me deeds kept p.0 (message.Propose _ p.1 e) e p.2 (inl refl)
  known_held deeds kept e (inr p) = facts_held f me deeds kept p.0 (message.Done _ e) e p.1 (inl refl)

  chooses_held : (deeds : Deeds) → Kept deeds → (e : Proposed) → Chooses (sight (at deeds)) e → IsHeld e deeds
  chooses_held deeds kept e (inl confirmed) = known_held deeds kept e confirmed.2
  chooses_held deeds kept e (inr done) =
      let s = sight (at deeds) in
      let none = count_none (3 * f + 1) in
      let m = one_honest f (λ j. is_entry e ((seen_now s).done j)) (λ j. true) (omega arith) done in
      known_held deeds kept e (inr (m.0, said_done s m.0 e m.2))

  chosen_held : (deeds : Deeds) → Kept deeds → (e : Proposed) → slot_machine.step (at deeds) ≡ step.Chosen e → IsHeld e deeds
  chosen_held deeds kept e h =
      let s = sight (at deeds) in
      chooses_held deeds kept e (choice_is s e (step_chooses (choice s) (view_to_enter s) (confirming s) e h)).1

  log_held : (deeds : Deeds) → Kept deeds → (n : ℕ) (e : Proposed) → slice_get (sight (at deeds)).log n ≡ Some e → IsHeld e deeds
  log_held [] kept n e h = absurd (let none = h in cc)
  log_held (act ∷ past) kept n e h =
      let one = (step_of (at past) act kept.0).0 in
      let more = IsIn-right e (entries_handed_in slot_machine act) (held_in slot_machine past) in
      elim one.log [
        | inl still ↦ more (log_held past kept.1 n e (rw still at h))
        | inr new ↦ elim (slice_get-push (sight (at past)).log new.0 e n (rw new.2 at h)) [
          | inl old ↦ more (log_held past kept.1 n e old)
          | inr it ↦ more (chooses_held past kept.1 e (subst (λ x. Chooses (sight (at past)) x) it.1 new.1))
        ]
      ]

  vouched_held : (deeds : Deeds) → Kept deeds → (m : OrderMessage) (e : Proposed) → Vouches (sight (at deeds)) m → IsIn e (carried m) → IsHeld e deeds
  vouched_held deeds kept (message.Propose n w x) e v c = facts_held f me deeds kept me (message.Propose n w x) e v c
  vouched_held deeds kept (message.Echo n w x) e v c = absurd c
  vouched_held deeds kept (message.Confirm n w x) e v c = absurd c
  vouched_held deeds kept (message.Change n w x) e v c = absurd c
  vouched_held deeds kept (message.Done n x) e v c = log_held deeds kept n e (elim c [ inl same ↦ v ∙ ap (λ (y : Proposed). Some y) (sym same) | inr none ↦ absurd none ])

-- what may be proposed again was proposed
kept_by : {A : Type 0} (found : A → Option Proposed) (x : A) (o : Option Proposed) (es : List Proposed) (e : Proposed) → found x ≡ o → (IsIn e es → (y : A) × (found y ≡ Some e)) → IsIn e (cons_option o es) → (y : A) × (found y ≡ Some e)
kept_by found x None es e is rest k = rest k
kept_by found x (Some y) es e is rest (inl same) = (x, is ∙ ap (λ (z : Proposed). Some z) (sym same))
kept_by found x (Some y) es e is rest (inr k) = rest k

filtered : {A : Type 0} (found : A → Option Proposed) (xs : List A) (e : Proposed) → IsIn e (filter_map found xs) → (x : A) × (found x ≡ Some e)
filtered found [] e k = absurd k
filtered found (x ∷ xs) e k = kept_by found x (found x) (filter_map found xs) e refl (filtered found xs e) k

only_is : (not_now anything : Bool) (all entries : List Proposed) → (if not_now then may.No else (if anything then may.Free else may.Only all)) ≡ may.Only entries → all ≡ entries
only_is true anything all entries h = cc
only_is false true all entries h = cc
only_is false false all entries h = cc

offered_held : (f me : ℕ) (deeds : Deeds) → AllKeepRules slot_machine f me deeds → (entries : List Proposed) (e : Proposed) → slot_machine.may_propose (record { f = f; me = me; deeds = deeds }) ≡ may.Only entries → IsIn e entries → IsIn e (held_in slot_machine deeds)
offered_held f me deeds kept entries e h k =
    let s = sight (record { f = f; me = me; deeds = deeds }) in
    let all = only_is (not (leader s s.view == s.me) || is_some (own proposal_said s)) ((s.view == 0) || free s) (candidates s) entries h in
    let pair = filtered (candidate s) (pairs_below (member_count s) (change_of s s.view)) e (subst (λ es. IsIn e es) (sym all) k) in
    let found = if_some (safe s pair.0.1) (proposal_of (seen_now s) pair.0.1) e pair.1 in
    let p = (proposal_of_is s pair.0.1 e found.1).1 in
    facts_held f me deeds kept (leader s p.0) (message.Propose (open_slot s) p.0 e) e p.1 (inl refl)

pub slot_holds : Holds slot_machine
slot_holds =
    record {
      chosen = λ f me deeds kept e h. chosen_held f me deeds kept e h;
      pending = λ f me deeds kept e h. (let s = sight (record { f = f; me = me; deeds = deeds }) in facts_held f me deeds kept (leader s s.view) (message.Propose (open_slot s) s.view e) e (pending_is s e h).proposed (inl refl));
      offered = λ f me deeds kept entries e h k. offered_held f me deeds kept entries e h k;
      logged = λ f me deeds kept n e h. log_held f me deeds kept n e h;
      sent = λ f me act deeds kept m to h e c. vouched_held f me (act ∷ deeds) kept m e ((step_of (record { f = f; me = me; deeds = deeds }) act kept.0).1 (sound f me deeds kept.1) m to h) c;
      proper = λ f me act deeds kept have m to h. handed_out_proper f me act deeds kept have m to h;
    }
