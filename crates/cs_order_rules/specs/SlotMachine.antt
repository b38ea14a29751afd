-- The order among 3f+1 members as a machine: what a member's deeds come to, and the rules on it.
use Rattle.std.specs.Prelude.{ℕ, ◌+◌, Bool, true, ◌||◌, if◌then◌else◌, List, [], ◌∷◌, length, Option, Some, None, is_some}
use Rattle.cs_base.specs.Options.{or_else}
use Rattle.cs_order.specs.Limits.{view_bound}
use Rattle.cs_order.specs.Deeds.{Deed, Took_in, Advanced, Echoed, Proposing, Ticked, Resent, Replied, Cut, Member, Machine, chosen_in, entry_of_slot}
use Rattle.cs_order.specs.declared.answers.Outgoing.{Outgoing}
use Rattle.cs_order.specs.declared.answers.Step.{Step}
use Rattle.cs_order.specs.declared.answers.Step.TheVariants.{Chosen, Moved, Quiet}
use Rattle.cs_order_rules.specs.declared.message.OrderMessage.{OrderMessage}
use Rattle.cs_order_rules.specs.declared.message.OrderMessage.TheVariants as message
use Rattle.cs_order_rules.specs.Facts.{Facts, Sight, carried, proper, first_of, echo_in}
use Rattle.cs_order_rules.specs.Rules.{verdict, step_of, advance_sent, pending, echo_sent, may_propose, propose_sent, tick_sent, resend_sent, reply_with, rest_of}

abbrev pub Deeds : Type 0
Deeds = List (Deed OrderMessage)

-- what a member says to all it takes itself
abbrev pub with_own : ℕ → List (Outgoing OrderMessage) → Facts → Facts
with_own me [] facts = facts
with_own me (out ∷ outs) facts = (me, out.message) ∷ with_own me outs facts

-- what was taken; what is sent again or in reply is no new fact
abbrev pub facts_in : ℕ → Deeds → Facts
facts_in me [] = []
facts_in me (Took_in from m ∷ past) = (from, m) ∷ facts_in me past
facts_in me (Advanced step sent ∷ past) = with_own me sent (facts_in me past)
facts_in me (Echoed sent ∷ past) = with_own me sent (facts_in me past)
facts_in me (Proposing entry sent ∷ past) = with_own me sent (facts_in me past)
facts_in me (Ticked due sent ∷ past) = with_own me sent (facts_in me past)
facts_in me (Resent sent ∷ past) = facts_in me past
facts_in me (Replied slot to sent ∷ past) = facts_in me past
facts_in me (Cut slot ∷ past) = facts_in me past

-- the view that is entered by sending this
abbrev pub changed_to : OrderMessage → Option ℕ
changed_to (message.Propose n w e) = None
changed_to (message.Echo n w d) = None
changed_to (message.Confirm n w d) = None
changed_to (message.Change n w c) = Some w
changed_to (message.Done n e) = None

abbrev pub entered_by : List (Outgoing OrderMessage) → Option ℕ
entered_by [] = None
entered_by (out ∷ outs) = or_else (changed_to out.message) (entered_by outs)

-- a number after a view was entered, and without that
abbrev pub after : {A : Type 0} → Option ℕ → (ℕ → A) → A → A
after None entered same = same
after (Some view) entered same = entered view

-- the view: that entered last in the open slot, or 0
abbrev pub view_by : Step → List (Outgoing OrderMessage) → ℕ → ℕ
view_by (Chosen e) sent view = 0
view_by Moved sent view = after (entered_by sent) (λ entered. entered) view
view_by Quiet sent view = view

abbrev pub view_in : Deeds → ℕ
view_in [] = 0
view_in (Took_in from m ∷ past) = view_in past
view_in (Advanced step sent ∷ past) = view_by step sent (view_in past)
view_in (Echoed sent ∷ past) = view_in past
view_in (Proposing entry sent ∷ past) = view_in past
view_in (Ticked due sent ∷ past) = after (entered_by sent) (λ entered. entered) (view_in past)
view_in (Resent sent ∷ past) = view_in past
view_in (Replied slot to sent ∷ past) = view_in past
view_in (Cut slot ∷ past) = view_in past

-- the wait: the ticks since the view was entered or the slot opened
-- at which an entry was due or the member had echoed in the slot
abbrev pub wait_by : Step → List (Outgoing OrderMessage) → ℕ → ℕ
wait_by (Chosen e) sent wait = 0
wait_by Moved sent wait = after (entered_by sent) (λ entered. 0) wait
wait_by Quiet sent wait = wait

abbrev pub has_echoed : ℕ → Deeds → Bool
has_echoed me deeds = is_some (first_of (echo_in (length (chosen_in deeds))) (facts_in me deeds) me)

abbrev pub wait_in : ℕ → Deeds → ℕ
wait_in me [] = 0
wait_in me (Took_in from m ∷ past) = wait_in me past
wait_in me (Advanced step sent ∷ past) = wait_by step sent (wait_in me past)
wait_in me (Echoed sent ∷ past) = wait_in me past
wait_in me (Proposing entry sent ∷ past) = wait_in me past
wait_in me (Ticked due sent ∷ past) =
    after (entered_by sent) (λ entered. 0) (if due || has_echoed me past then wait_in me past + 1 else wait_in me past)
wait_in me (Resent sent ∷ past) = wait_in me past
wait_in me (Replied slot to sent ∷ past) = wait_in me past
wait_in me (Cut slot ∷ past) = wait_in me past

-- all that the rules look at, but where the log was cut: what is given up changes no rule, and is answered no more
abbrev pub sight : Member OrderMessage → Sight
sight h = record {
  f = h.f;
  me = h.me;
  taken = facts_in h.me h.deeds;
  log = chosen_in h.deeds;
  view = view_in h.deeds;
  wait = wait_in h.me h.deeds;
  views = view_bound;
}

abbrev pub slot_machine : Machine OrderMessage
slot_machine = record {
  serves = λ f. true;
  proper = proper;
  carried = carried;
  view = λ h. view_in h.deeds;
  taking = λ h from m. verdict (sight h) from m;
  step = λ h. step_of (sight h);
  advancing = λ h. advance_sent (sight h);
  pending = λ h. pending (sight h);
  echoing = λ h. echo_sent (sight h) (pending (sight h));
  may_propose = λ h. may_propose (sight h);
  proposing = λ h entry. propose_sent (sight h) entry;
  ticking = λ h due. tick_sent (sight h) due;
  resending = λ h. resend_sent (sight h);
  replying = λ h slot to. reply_with slot to (entry_of_slot h.deeds slot);
}

abbrev pub slot_rest : Member OrderMessage → ℕ
slot_rest h = rest_of (sight h)
