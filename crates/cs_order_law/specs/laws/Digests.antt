-- The digests that members say are those of entries that were handed in.
use Rattle.std.proofs.Common.{◌≡◌, ℕ, ◌+◌, ◌*◌, true, List, [], ◌∷◌, inl, inr, refl, subst, arith}
use Rattle.cs_base.specs.Lists.{IsIn}
use Rattle.cs_order.specs.laws.Lists.{IsIn-left, IsIn-right}
use Rattle.cs_order.specs.Digests.{digest_fits, HaveDigests}
use Rattle.cs_order.specs.Deeds.{Deed, Member, did}
use Rattle.cs_order.specs.Runs.{KeepsRules, AllKeepRules, held_in, entries_handed_in}
use Rattle.cs_order.specs.declared.proposed.Proposed.{Proposed}
use Rattle.cs_order_rules.specs.declared.message.OrderMessage.{OrderMessage}
use Rattle.cs_order_rules.specs.declared.message.OrderMessage.TheVariants as message
use Rattle.cs_order_rules.specs.Slot.{is_digest}
use Rattle.cs_order_rules.specs.Facts.{Sight, open_slot, leader, is_place, proper, carried}
use Rattle.cs_order_rules.specs.Rules.{seen_now}
use Rattle.cs_order_rules.specs.SlotMachine.{slot_machine, sight}
use Rattle.cs_order_law.specs.laws.Quorum.{one_honest}
use Rattle.cs_order_law.specs.laws.Exact.{count_none}
use Rattle.cs_order_law.specs.laws.SafeFacts.{and_right}
use Rattle.cs_order_law.specs.laws.SlotFacts.{pending_is}
use Rattle.cs_order_law.specs.laws.RuleFacts.{said_echo}
use Rattle.cs_order_law.specs.laws.Sound.{SlotAct, MayNew}
use Rattle.cs_order_law.specs.laws.Steps.{step_of}
use Rattle.cs_order_law.specs.laws.SlotLaw.{new_carried}

abbrev Deeds : Type 0
Deeds = List (Deed OrderMessage)

-- what is echoed or confirmed is a digest
abbrev pub SaysDigest : OrderMessage → Type 0
SaysDigest (message.Propose n w e) = Unit {0}
SaysDigest (message.Echo n w d) = digest_fits d ≡ true
SaysDigest (message.Confirm n w d) = digest_fits d ≡ true
SaysDigest (message.Change n w c) = Unit {0}
SaysDigest (message.Done n e) = Unit {0}

proper_says : (m : OrderMessage) → proper m ≡ true → SaysDigest m
proper_says (message.Propose n w e) h = tt
proper_says (message.Echo n w d) h = and_right (is_place n w) _ h
proper_says (message.Confirm n w d) h = and_right (is_place n w) _ h
proper_says (message.Change n w c) h = tt
proper_says (message.Done n e) h = tt

module _ (f me : ℕ) where
  abbrev at : Deeds → Member OrderMessage
  at deeds = record { f = f; me = me; deeds = deeds }

  abbrev Kept : Deeds → Type 0
  Kept deeds = AllKeepRules slot_machine f me deeds

  -- what stands in a message taken was handed in
  pub facts_held : (deeds : Deeds) → Kept deeds → (k : ℕ) (m : OrderMessage) (e : Proposed) → IsIn (k, m) (sight (at deeds)).taken → IsIn e (carried m) → IsIn e (held_in slot_machine deeds)
  facts_held [] kept k m e h c = absurd h
  facts_held (act ∷ past) kept k m e h c =
      let one = (step_of (at past) act kept.0).0 in
      elim (one.adds (k, m) h) [
        | inl old ↦ IsIn-right e (entries_handed_in slot_machine act) (held_in slot_machine past) (facts_held past kept.1 k m e old c)
        | inr source ↦ IsIn-left e (entries_handed_in slot_machine act) (held_in slot_machine past)
            (elim source [
              | inl foreign ↦ rw foreign.0 c
              | inr own ↦ new_carried act (sight (at past)) (sight (did act (at past))) m e own.1 c
            ])
      ]

  abbrev AllSay : Deeds → Type 0
  AllSay deeds = (k : ℕ) (m : OrderMessage) → IsIn (k, m) (sight (at deeds)).taken → SaysDigest m

  -- what is echoed was proposed, and what is confirmed was echoed by some member
  new_says : (act : SlotAct) (past : Deeds) (t : Sight) (m : OrderMessage) → Kept past → HaveDigests (held_in slot_machine past) → AllSay past → MayNew act (sight (at past)) t m → SaysDigest m
  new_says act past t (message.Propose n w e) kept have all new = tt
  new_says act past t (message.Echo n w d) kept have all new =
      let s = sight (at past) in
      let e = new.5.0 in
      let held = facts_held past kept (leader s s.view) (message.Propose (open_slot s) s.view e) e (pending_is s e new.5.1).proposed (inl refl) in
      rw new.5.2 (have e held)
  new_says act past t (message.Confirm n w d) kept have all new =
      let s = sight (at past) in
      let none = count_none (3 * f + 1) in
      let enough = new.4.0 in
      let m = one_honest f (λ j. is_digest d ((seen_now s).echo s.view j)) (λ j. true) (omega arith) (omega arith) in
      all m.0 (message.Echo (open_slot s) s.view d) (said_echo s s.view m.0 d m.2)
  new_says act past t (message.Change n w c) kept have all new = tt
  new_says act past t (message.Done n e) kept have all new = tt

  -- where the entries that were handed in have digests, each message taken says one
  pub all_say : (deeds : Deeds) → Kept deeds → HaveDigests (held_in slot_machine deeds) → AllSay deeds
  all_say [] kept have k m h = absurd h
  all_say (act ∷ past) kept have k m h =
      let before : HaveDigests (held_in slot_machine past) = λ e i. have e (IsIn-right e (entries_handed_in slot_machine act) (held_in slot_machine past) i) in
      let all = all_say past kept.1 before in
      elim ((step_of (at past) act kept.0).0.adds (k, m) h) [
        | inl old ↦ all k m old
        | inr source ↦ elim source [
          | inl foreign ↦ proper_says m (subst (λ (a : SlotAct). KeepsRules slot_machine (at past) a) foreign.0 kept.0).2
          | inr own ↦ new_says act past (sight (did act (at past))) m kept.1 before all own.1
        ]
      ]
