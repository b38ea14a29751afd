-- What holds of every member that kept the rules.
use Rattle.std.proofs.Common.{◌≡◌, ℕ, ◌≤◌, List, [], ◌∷◌, length, length-append, Option, Some, None, arith}
use Rattle.cs_order.specs.Limits.{last_slot}
use Rattle.cs_order.specs.Deeds.{Deed, Member, did, chosen_by, chosen_in}
use Rattle.cs_order.specs.Deeds as deed
use Rattle.cs_order.specs.Runs.{AllKeepRules}
use Rattle.cs_order.specs.declared.proposed.Proposed.{Proposed}
use Rattle.cs_order.specs.declared.answers.Step.{Step}
use Rattle.cs_order.specs.declared.answers.Step.TheVariants as step
use Rattle.cs_order_rules.specs.declared.message.OrderMessage.{OrderMessage}
use Rattle.cs_order_rules.specs.Facts.{Sight}
use Rattle.cs_order_rules.specs.Rules.{choice, view_to_enter, confirming, step_by, step_of as next_step}
use Rattle.cs_order_rules.specs.SlotMachine.{slot_machine, sight}
use Rattle.cs_order_law.specs.laws.RuleFacts.{choice_is}
use Rattle.cs_order_law.specs.laws.Sound.{Sound, sound_step}
use Rattle.cs_order_law.specs.laws.Steps.{step_of}

abbrev Deeds : Type 0
Deeds = List (Deed OrderMessage)

-- a choice is what the step tells
pub step_chooses : (c : Option Proposed) (w : Option ℕ) (d : Option (List ℕ)) (e : Proposed) → step_by c w d ≡ step.Chosen e → c ≡ Some e
step_chooses (Some x) w d e h = cc
step_chooses None (Some w) d e h = cc
step_chooses None None (Some d) e h = cc
step_chooses None None None e h = cc

-- the last slot is never chosen
step_short : (s : Sight) (x : Step) → next_step s ≡ x → length s.log ≤ last_slot → length (chosen_by x s.log) ≤ last_slot
step_short s (step.Chosen e) is h = (let room = (choice_is s e (step_chooses (choice s) (view_to_enter s) (confirming s) e is)).0 in simp length-append (omega arith))
step_short s step.Moved is h = h
step_short s step.Quiet is h = h

module _ (f me : ℕ) where
  abbrev at : Deeds → Member OrderMessage
  at deeds = record { f = f; me = me; deeds = deeds }

  pub sound : (deeds : Deeds) → AllKeepRules slot_machine f me deeds → Sound (sight (at deeds))
  sound [] kept =
      record {
        small = omega arith;
        within = λ m k. absurd k;
        no_own_done = λ n e k. k;
        one_echo = λ n w d e k l. absurd k;
        echo_safe = λ n w d k l. absurd k;
        confirm_echoed = λ n v d k. absurd k;
        change_tells = λ n w v c d k l b. absurd k;
        change_lists = λ n w u c d k l. absurd k;
      }
  sound (act ∷ past) kept = sound_step act (sight (at past)) (sight (did act (at past))) (step_of (at past) act kept.0).0 (sound past kept.1)

  pub log_short : (deeds : Deeds) → AllKeepRules slot_machine f me deeds → length (chosen_in deeds) ≤ last_slot
  log_short [] kept = omega arith
  log_short (deed.Took_in from m ∷ past) kept = log_short past kept.1
  log_short (deed.Advanced x sent ∷ past) kept = step_short (sight (at past)) x kept.0.0 (log_short past kept.1)
  log_short (deed.Echoed sent ∷ past) kept = log_short past kept.1
  log_short (deed.Proposing e sent ∷ past) kept = log_short past kept.1
  log_short (deed.Ticked due sent ∷ past) kept = log_short past kept.1
  log_short (deed.Resent sent ∷ past) kept = log_short past kept.1
  log_short (deed.Replied slot to sent ∷ past) kept = log_short past kept.1
  log_short (deed.Cut slot ∷ past) kept = log_short past kept.1
