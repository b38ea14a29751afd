-- The rules of an order among 3f+1 members, as functions of what a member sees.
use Rattle.std.specs.List.{list_any, filter_map}
use Rattle.std.specs.Cmp.Lexicographic.{slice_cmp}
use Rattle.std.specs.Ordering.{nat_cmp, is_lt}
use Rattle.std.specs.Prelude.{ℕ, zero, suc, ◌+◌, ◌*◌, ◌%◌, ◌^◌, ◌==◌, min, nat_lt, nat_le, bytes_eq, Bool, true, not, ◌&&◌, ◌||◌, if◌then◌else◌, List, [], ◌∷◌, ◌++◌, length, Option, Some, None, is_some}
use Rattle.cs_base.specs.declared.limits.TheConstants.{MOST_ECHOED, SLOTS_AHEAD}
use Rattle.cs_order.specs.Counts.{when, last_below}
use Rattle.cs_order.specs.Limits.{view_bound, rest_at}
use Rattle.cs_order.specs.declared.proposed.Proposed.{Proposed}
use Rattle.cs_order.specs.declared.answers.Outgoing.{Outgoing}
use Rattle.cs_order.specs.declared.answers.Took.{Took}
use Rattle.cs_order.specs.declared.answers.Took.TheVariants.{Taken, Old, Far, Leader, Repeat}
use Rattle.cs_order.specs.declared.answers.Step.{Step}
use Rattle.cs_order.specs.declared.answers.Step.TheVariants.{Chosen, Moved, Quiet}
use Rattle.cs_order.specs.declared.answers.May.{May}
use Rattle.cs_order.specs.declared.answers.May.TheVariants.{No, Free, Only}
use Rattle.cs_order_rules.specs.declared.message.Change.{Change}
use Rattle.cs_order_rules.specs.declared.message.OrderMessage.{OrderMessage}
use Rattle.cs_order_rules.specs.declared.message.OrderMessage.TheVariants as message
use Rattle.cs_order_rules.specs.Safe.{is_free_view, is_safe}
use Rattle.cs_order_rules.specs.Slot.{Seen, proposal_of, chosen, to_confirm, prepared}
use Rattle.cs_order_rules.specs.Facts.{Facts, Sight, open_slot, member_count, leader, slot_of_message, proposal_said, echo_said, confirm_said, change_said, done_said, echo_in, is_change_from, is_like, took, first_of, count_of}

-- What stands in the open slot.
abbrev pub proposal_at : Sight → ℕ → ℕ → Option Proposed
proposal_at s slot view = first_of (proposal_said slot view) s.taken ((slot + view) % member_count s)

abbrev pub proposal : Sight → ℕ → Option Proposed
proposal s view = proposal_at s (open_slot s) view

abbrev pub change_of : Sight → ℕ → ℕ → Option Change
change_of s view member = first_of (change_said (open_slot s) view) s.taken member

-- the member's own messages of a kind, in its view
abbrev pub own : {A : Type 0} → (ℕ → ℕ → OrderMessage → Option A) → Sight → Option A
own said s = first_of (said (open_slot s) s.view) s.taken s.me

-- a slot from the open one on, of which a later one is in view 0
abbrev pub seen_at : Sight → ℕ → ℕ → Seen
seen_at s slot view = record {
  f = s.f;
  n = slot;
  me = s.me;
  view = view;
  views = s.views;
  proposal = proposal_at s slot;
  echo = λ view. first_of (echo_said slot view) s.taken;
  confirm = λ view. first_of (confirm_said slot view) s.taken;
  done = first_of (done_said slot) s.taken;
}

abbrev pub seen_now : Sight → Seen
seen_now s = seen_at s (open_slot s) s.view

-- Choose.
abbrev pub choice : Sight → Option Proposed
choice s = chosen (seen_now s)

-- Enter: the greatest view above the member's that f+1 members have reached.
abbrev pub view_to_enter : Sight → Option ℕ
view_to_enter s =
    last_below s.views (λ view. nat_lt s.view view && nat_le (s.f + 1) (count_of s (is_change_from (open_slot s) view)))

-- Confirm.
abbrev pub confirming : Sight → Option (List ℕ)
confirming s = to_confirm (seen_now s)

-- What a change to a view tells: the member's prepared pair of greatest view,
-- and each digest that it echoed, rising, with the greatest view.
abbrev pub insert_line : List ℕ × ℕ → List (List ℕ × ℕ) → List (List ℕ × ℕ)
insert_line line [] = line ∷ []
insert_line line (other ∷ lines) =
    if bytes_eq line.0 other.0
    then (if nat_lt other.1 line.1 then line else other) ∷ lines
    else (if is_lt (slice_cmp nat_cmp line.0 other.0) then line ∷ other ∷ lines else other ∷ insert_line line lines)

abbrev pub with_line : Option (List ℕ × ℕ) → List (List ℕ × ℕ) → List (List ℕ × ℕ)
with_line None lines = lines
with_line (Some line) lines = insert_line line lines

abbrev pub echoed_in : ℕ → ℕ → Facts → List (List ℕ × ℕ)
echoed_in me slot [] = []
echoed_in me slot (fact ∷ facts) = with_line (when (fact.0 == me) (echo_in slot fact.1)) (echoed_in me slot facts)

abbrev pub change_told : Sight → Change
change_told s = record { prepared = prepared (seen_now s); echoed = echoed_in s.me (open_slot s) s.taken }

-- a message to all, which the member takes itself
abbrev pub to_all : OrderMessage → List (Outgoing OrderMessage)
to_all m = record { to = None; message = m } ∷ []

abbrev pub change_to : Sight → ℕ → List (Outgoing OrderMessage)
change_to s view = to_all (message.Change (open_slot s) view (change_told s))

-- The first of choosing, entering and confirming that applies.
abbrev pub step_by : Option Proposed → Option ℕ → Option (List ℕ) → Step
step_by (Some e) enter confirm = Chosen e
step_by None (Some view) confirm = Moved
step_by None None (Some digest) = Moved
step_by None None None = Quiet

abbrev pub sent_by_rules : Sight → Option Proposed → Option ℕ → Option (List ℕ) → List (Outgoing OrderMessage)
sent_by_rules s (Some e) enter confirm = []
sent_by_rules s None (Some view) confirm = change_to s view
sent_by_rules s None None (Some digest) = to_all (message.Confirm (open_slot s) s.view digest)
sent_by_rules s None None None = []

abbrev pub step_of : Sight → Step
step_of s = step_by (choice s) (view_to_enter s) (confirming s)

abbrev pub advance_sent : Sight → List (Outgoing OrderMessage)
advance_sent s = sent_by_rules s (choice s) (view_to_enter s) (confirming s)

-- what the changes to the member's view allow
abbrev pub free : Sight → Bool
free s = is_free_view s.f (change_of s s.view)

abbrev pub safe : Sight → List ℕ → Bool
safe s digest = is_safe s.f (change_of s s.view) s.view digest

-- Echo, without admission: the leader's proposal of the view, where it is safe, nothing was echoed
-- in the view, and the digest is one of the most that are echoed in a slot.
abbrev pub has_echo_place : Sight → List ℕ → Bool
has_echo_place s digest =
    let lines = echoed_in s.me (open_slot s) s.taken in
    nat_lt (length lines) MOST_ECHOED || list_any (λ (line : List ℕ × ℕ). bytes_eq line.0 digest) lines

abbrev pub may_echo : Sight → Proposed → Bool
may_echo s e = (((s.view == 0) || safe s e.digest) && not (is_some (own echo_said s))) && has_echo_place s e.digest

abbrev pub if_may_echo : Sight → Option Proposed → Option Proposed
if_may_echo s None = None
if_may_echo s (Some e) = when (may_echo s e) (Some e)

abbrev pub pending : Sight → Option Proposed
pending s = if_may_echo s (proposal s s.view)

abbrev pub echo_sent : Sight → Option Proposed → List (Outgoing OrderMessage)
echo_sent s None = []
echo_sent s (Some e) = to_all (message.Echo (open_slot s) s.view e.digest)

-- Propose.
-- the prepared pairs of the changes, by falling view and then rising digest, each once
abbrev pub comes_before : ℕ × List ℕ → ℕ × List ℕ → Bool
comes_before p q = nat_lt q.0 p.0 || ((p.0 == q.0) && is_lt (slice_cmp nat_cmp p.1 q.1))

abbrev pub insert_pair : ℕ × List ℕ → List (ℕ × List ℕ) → List (ℕ × List ℕ)
insert_pair p [] = p ∷ []
insert_pair p (q ∷ qs) =
    if comes_before p q
    then p ∷ q ∷ qs
    else (if comes_before q p then q ∷ insert_pair p qs else q ∷ qs)

abbrev pub pair_of : Option Change → Option (ℕ × List ℕ)
pair_of None = None
pair_of (Some c) = c.prepared

abbrev pub with_pair : Option (ℕ × List ℕ) → List (ℕ × List ℕ) → List (ℕ × List ℕ)
with_pair None ps = ps
with_pair (Some p) ps = insert_pair p ps

abbrev pub pairs_below : ℕ → (ℕ → Option Change) → List (ℕ × List ℕ)
pairs_below zero changes = []
pairs_below (suc n) changes = with_pair (pair_of (changes n)) (pairs_below n changes)

-- those that are safe and whose entry was proposed
abbrev pub candidate : Sight → ℕ × List ℕ → Option Proposed
candidate s pair = when (safe s pair.1) (proposal_of (seen_now s) pair.1)

abbrev pub candidates : Sight → List Proposed
candidates s = filter_map (candidate s) (pairs_below (member_count s) (change_of s s.view))

abbrev pub may_propose : Sight → May
may_propose s =
    if not (leader s s.view == s.me) || is_some (own proposal_said s)
    then No
    else (if (s.view == 0) || free s then Free else Only (candidates s))

abbrev pub propose_sent : Sight → Proposed → List (Outgoing OrderMessage)
propose_sent s e = to_all (message.Propose (open_slot s) s.view e)

-- What is taken: messages of the open slot and of those not too far ahead, proposals of the leader alone,
-- and of each kind, slot and view the first of a member.
abbrev pub is_led : Sight → ℕ → OrderMessage → Bool
is_led s from (message.Propose n w e) = from == (n + w) % member_count s
is_led s from (message.Echo n w d) = true
is_led s from (message.Confirm n w d) = true
is_led s from (message.Change n w c) = true
is_led s from (message.Done n e) = true

abbrev pub verdict : Sight → ℕ → OrderMessage → Took
verdict s from m =
    if nat_lt (slot_of_message m) (open_slot s)
    then Old
    else (if nat_lt (open_slot s + SLOTS_AHEAD) (slot_of_message m)
    then Far
    else (if not (is_led s from m)
    then Leader
    else (if took (is_like m) s.taken from then Repeat else Taken)))

-- A tick: the wait grows where an entry is due or the member echoed in the slot,
-- and at its limit the next view is entered.
abbrev pub wait_grows : Sight → Bool → Bool
wait_grows s due = due || is_some (first_of (echo_in (open_slot s)) s.taken s.me)

abbrev pub is_slot_over : Sight → Bool → Bool
is_slot_over s due = wait_grows s due && ((s.wait + 1 == 8 * 2 ^ min s.view 10) && nat_lt (s.view + 1) view_bound)

abbrev pub tick_sent : Sight → Bool → List (Outgoing OrderMessage)
tick_sent s due = if is_slot_over s due then change_to s (s.view + 1) else []

-- What is sent again: the own messages of the open slot and the view.
abbrev pub sent_again : {A : Type 0} → (A → OrderMessage) → Option A → List (Outgoing OrderMessage)
sent_again message None = []
sent_again message (Some x) = to_all (message x)

abbrev pub resend_sent : Sight → List (Outgoing OrderMessage)
resend_sent s =
    sent_again (message.Propose (open_slot s) s.view) (own proposal_said s)
    ++ sent_again (message.Echo (open_slot s) s.view) (own echo_said s)
    ++ sent_again (message.Confirm (open_slot s) s.view) (own confirm_said s)
    ++ sent_again (message.Change (open_slot s) s.view) (own change_said s)

-- What answers a Want of the slot: the entry that the member gives of it.
abbrev pub reply_with : ℕ → ℕ → Option Proposed → Option (Outgoing OrderMessage)
reply_with slot to None = None
reply_with slot to (Some e) = Some (record { to = Some to; message = message.Done slot e })

-- how many of proposing, echoing and confirming the member has not done in its view
abbrev pub one_unless : {A : Type 0} → Option A → ℕ
one_unless o = if is_some o then 0 else 1

abbrev pub left_to_do : Sight → ℕ
left_to_do s = one_unless (own proposal_said s) + (one_unless (own echo_said s) + one_unless (own confirm_said s))

abbrev pub rest_of : Sight → ℕ
rest_of s = rest_at (open_slot s) s.view (left_to_do s)
