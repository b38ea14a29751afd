-- A member that has taken nothing has nothing to do, and what is to do comes to an end.
use Rattle.std.proofs.Common.{◌≡◌, ℕ, ◌+◌, ◌*◌, ◌≤◌, nat_le, nat_lt, Bool, true, false, ◌&&◌, List, [], Option, Some, None, inl, inr, refl, arith, leb-true}
use Rattle.cs_order.specs.Counts.{count_below}
use Rattle.cs_order.specs.Deeds as deed
use Rattle.cs_order.specs.Law.{ComesToRest}
use Rattle.cs_order.specs.declared.proposed.Proposed.{Proposed}
use Rattle.cs_order.specs.declared.answers.Step.TheVariants as step
use Rattle.cs_order_rules.specs.Facts.{Sight, open_slot, is_change_from, count_of}
use Rattle.cs_order_rules.specs.Rules.{choice, view_to_enter, confirming, step_by}
use Rattle.cs_order_rules.specs.SlotMachine.{slot_machine, sight, slot_rest}
use Rattle.cs_order_law.specs.laws.Exact.{count_none}
use Rattle.cs_order_law.specs.laws.Rest.{rest_falls, member_bounded}
use Rattle.cs_order_law.specs.laws.SlotFacts.{last_below_is}
use Rattle.cs_order_law.specs.laws.RuleFacts.{Chooses, choice_is, to_confirm_is}

and_right : (a b : Bool) → (a && b) ≡ true → b ≡ true
and_right true b h = h
and_right false b h = cc

-- so few members say nothing
none_said : (f least : ℕ) → least + 1 ≤ count_below (3 * f + 1) (λ k. false) → ⊥
none_said f least enough = (let none = count_none (3 * f + 1) in omega arith)

module _ (f me : ℕ) where
  abbrev start : Sight
  start = sight (record { f = f; me = me; deeds = [] })

  none_by : (e : Proposed) → Chooses start e → ⊥
  none_by e (inl confirmed) = none_said f (2 * f) confirmed.1
  none_by e (inr done) = none_said f f done

  none_chosen : (e : Proposed) → choice start ≡ Some e → ⊥
  none_chosen e is = none_by e (choice_is start e is).1

  none_entered : (w : ℕ) → view_to_enter start ≡ Some w → ⊥
  none_entered w is =
      let r = last_below_is start.views w (λ view. nat_lt start.view view && nat_le (start.f + 1) (count_of start (is_change_from (open_slot start) view))) is in
      none_said f f (leb-true (f + 1) (count_below (3 * f + 1) (λ k. false)) (and_right (nat_lt start.view w) _ r.1))

  none_confirmed : (d : List ℕ) → confirming start ≡ Some d → ⊥
  none_confirmed d is = none_said f (2 * f) (to_confirm_is start d is).0

  by_rules : (c : Option Proposed) (w : Option ℕ) (d : Option (List ℕ)) → choice start ≡ c → view_to_enter start ≡ w → confirming start ≡ d → step_by c w d ≡ step.Quiet
  by_rules (Some e) w d p q r = absurd (none_chosen e p)
  by_rules None (Some w) d p q r = absurd (none_entered w q)
  by_rules None None (Some d) p q r = absurd (none_confirmed d r)
  by_rules None None None p q r = refl

pub slot_comes_to_rest : ComesToRest slot_machine slot_rest
slot_comes_to_rest = record {
  start = λ f me. by_rules f me (choice (start f me)) (view_to_enter (start f me)) (confirming (start f me)) refl refl refl;
  advanced = λ h moves. rest_falls h (deed.Advanced (slot_machine.step h) (slot_machine.advancing h)) (refl, moves, refl) tt;
  echoed = λ h some. rest_falls h (deed.Echoed (slot_machine.echoing h)) (some, refl) tt;
  proposed = λ h e may. rest_falls h (deed.Proposing e (slot_machine.proposing h e)) (may, refl) tt;
  cut = λ h slot. let z : ℕ = 0 in omega arith;
  bounded = member_bounded;
}
