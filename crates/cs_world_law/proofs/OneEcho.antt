-- A member takes one echo of each member in a view, so what it confirmed is what the echoes that it has agree on.
use Rattle.std.proofs.Common.{◌≡◌, ℕ, true, false, List, [], ◌∷◌, ◌⊎◌, inl, inr, subst, arith}
use Rattle.std.proofs.lemmas.Bool.{and_from}
use Rattle.cs_base.specs.Lists.{IsIn}
use Rattle.cs_order.specs.Deeds.{Deed, Member, did}
use Rattle.cs_order.specs.Deeds as deed
use Rattle.cs_order.specs.Runs.{KeepsRules, AllKeepRules}
use Rattle.cs_order.specs.declared.answers.Took.TheVariants as took_as
use Rattle.cs_order_rules.specs.declared.message.OrderMessage.{OrderMessage}
use Rattle.cs_order_rules.specs.declared.message.OrderMessage.TheVariants as message
use Rattle.cs_order_rules.specs.Facts.{Sight, is_like, took}
use Rattle.cs_order_rules.specs.Rules.{verdict}
use Rattle.cs_order_rules.specs.SlotMachine.{slot_machine, sight}
use Rattle.cs_order_law.specs.laws.SlotFacts.{in_took, same_number}
use Rattle.cs_order_law.specs.laws.Sound.{Sound, Source, StepOf}
use Rattle.cs_order_law.specs.laws.Sights.{sound}
use Rattle.cs_order_law.specs.laws.Steps.{step_of}

-- one echo of each member in a view
abbrev pub OneEcho : Sight → Type 0
OneEcho s = (j n v : ℕ) (d e : List ℕ) → IsIn (j, message.Echo n v d) s.taken → IsIn (j, message.Echo n v e) s.taken → d ≡ e

-- what is taken is no repeat
no_repeat : (s : Sight) (from : ℕ) (m : OrderMessage) → verdict s from m ≡ took_as.Taken → took (is_like m) s.taken from ≡ false
no_repeat s from m h = grind arith

like_echo : (n v : ℕ) (d e : List ℕ) → is_like (message.Echo n v d) (message.Echo n v e) ≡ true
like_echo n v d e = and_from _ _ (same_number n) (same_number v)

module _ (act : Deed OrderMessage) (h : Member OrderMessage) (keeps : KeepsRules slot_machine h act) where
  abbrev Before : Sight
  Before = sight h

  abbrev After : Sight
  After = sight (did act h)

  -- what is taken now was not taken before
  not_again : (j n v : ℕ) (d e : List ℕ) → act ≡ deed.Took_in j (message.Echo n v d) → IsIn (j, message.Echo n v e) Before.taken → ⊥
  not_again j n v d e is old =
      let taken = (subst (λ a. KeepsRules slot_machine h a) is keeps).3 in
      let no = no_repeat Before j (message.Echo n v d) taken in
      let yes = in_took (is_like (message.Echo n v d)) Before.taken j (message.Echo n v e) old (like_echo n v d e) in
      cc

  next_one : StepOf act Before After → Sound After → OneEcho Before → OneEcho After
  next_one one sound earlier j n v d e hd he = by (one.adds (j, message.Echo n v d) hd) (one.adds (j, message.Echo n v e) he)
    where
      own : j ≡ h.me → d ≡ e
      own is = sound.one_echo n v d e (subst (λ k. IsIn (k, message.Echo n v d) After.taken) is hd) (subst (λ k. IsIn (k, message.Echo n v e) After.taken) is he)

      by : IsIn (j, message.Echo n v d) Before.taken ⊎ Source act Before After (j, message.Echo n v d)
          → IsIn (j, message.Echo n v e) Before.taken ⊎ Source act Before After (j, message.Echo n v e) → d ≡ e
      by (inl a) (inl b) = earlier j n v d e a b
      by (inl a) (inr (inl b)) = absurd (not_again j n v e d b.0 a)
      by (inl a) (inr (inr b)) = own b.0
      by (inr (inl a)) (inl b) = absurd (not_again j n v d e a.0 b)
      by (inr (inl a)) (inr (inl b)) = (let x = a.0 in let y = b.0 in cc)
      by (inr (inl a)) (inr (inr b)) = own b.0
      by (inr (inr a)) b = own a.0

module _ (f me : ℕ) where
  pub one_echo : (deeds : List (Deed OrderMessage)) → AllKeepRules slot_machine f me deeds → OneEcho (sight (record { f = f; me = me; deeds = deeds }))
  one_echo [] kept = λ j n v d e hd he. absurd hd
  one_echo (act ∷ past) kept =
      let h : Member OrderMessage = record { f = f; me = me; deeds = past } in
      next_one act h kept.0 (step_of h act kept.0).0 (sound f me (act ∷ past) kept) (one_echo past kept.1)
