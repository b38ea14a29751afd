-- What a member has taken, and what it tells.
use Rattle.std.specs.Prelude.{ℕ, ◌+◌, ◌*◌, ◌%◌, ◌==◌, nat_lt, nat_le, Bool, true, false, ◌&&◌, ◌||◌, List, [], ◌∷◌, length, Option, Some, None}
use Rattle.std.specs.List.{list_all}
use Rattle.std.specs.Cmp.Lexicographic.{slice_cmp}
use Rattle.std.specs.Ordering.{nat_cmp, is_lt}
use Rattle.cs_base.specs.declared.limits.TheConstants.{MOST_ECHOED}
use Rattle.cs_order.specs.Counts.{when, count_below}
use Rattle.cs_base.specs.Options.{or_else}
use Rattle.cs_order.specs.Digests.{digest_fits}
use Rattle.cs_order.specs.Limits.{last_slot, view_bound}
use Rattle.cs_order.specs.declared.proposed.Proposed.{Proposed}
use Rattle.cs_order_rules.specs.declared.message.Change.{Change}
use Rattle.cs_order_rules.specs.declared.message.OrderMessage.{OrderMessage}
use Rattle.cs_order_rules.specs.declared.message.OrderMessage.TheVariants as message

-- messages taken, with their senders, the newest first; the member's own are among them
abbrev pub Facts : Type 0
Facts = List (ℕ × OrderMessage)

-- What a member sees: all that its deeds come to.
pub record Sight : Type 0 where
  pub f : ℕ
  pub me : ℕ
  pub taken : Facts
  pub log : List Proposed  -- the entries chosen
  pub view : ℕ
  pub wait : ℕ
  pub views : ℕ  -- no view is this or above

abbrev pub open_slot : Sight → ℕ
open_slot s = length s.log

abbrev pub member_count : Sight → ℕ
member_count s = 3 * s.f + 1

abbrev pub leader : Sight → ℕ → ℕ
leader s view = (open_slot s + view) % member_count s

-- What one message is.
abbrev pub slot_of_message : OrderMessage → ℕ
slot_of_message (message.Propose n w e) = n
slot_of_message (message.Echo n w d) = n
slot_of_message (message.Confirm n w d) = n
slot_of_message (message.Change n w c) = n
slot_of_message (message.Done n e) = n

abbrev pub view_of_message : OrderMessage → ℕ
view_of_message (message.Propose n w e) = w
view_of_message (message.Echo n w d) = w
view_of_message (message.Confirm n w d) = w
view_of_message (message.Change n w c) = w
view_of_message (message.Done n e) = 0

-- the entries that stand in it
abbrev pub carried : OrderMessage → List Proposed
carried (message.Propose n w e) = e ∷ []
carried (message.Echo n w d) = []
carried (message.Confirm n w d) = []
carried (message.Change n w c) = []
carried (message.Done n e) = e ∷ []

-- it has this slot and view
abbrev pub at : ℕ → ℕ → ℕ → ℕ → Bool
at slot view n w = (n == slot) && (w == view)

-- What it says, where it is of this kind, slot and view.
abbrev pub proposal_said : ℕ → ℕ → OrderMessage → Option Proposed
proposal_said slot view (message.Propose n w e) = when (at slot view n w) (Some e)
proposal_said slot view (message.Echo n w d) = None
proposal_said slot view (message.Confirm n w d) = None
proposal_said slot view (message.Change n w c) = None
proposal_said slot view (message.Done n e) = None

abbrev pub echo_said : ℕ → ℕ → OrderMessage → Option (List ℕ)
echo_said slot view (message.Propose n w e) = None
echo_said slot view (message.Echo n w d) = when (at slot view n w) (Some d)
echo_said slot view (message.Confirm n w d) = None
echo_said slot view (message.Change n w c) = None
echo_said slot view (message.Done n e) = None

abbrev pub confirm_said : ℕ → ℕ → OrderMessage → Option (List ℕ)
confirm_said slot view (message.Propose n w e) = None
confirm_said slot view (message.Echo n w d) = None
confirm_said slot view (message.Confirm n w d) = when (at slot view n w) (Some d)
confirm_said slot view (message.Change n w c) = None
confirm_said slot view (message.Done n e) = None

abbrev pub change_said : ℕ → ℕ → OrderMessage → Option Change
change_said slot view (message.Propose n w e) = None
change_said slot view (message.Echo n w d) = None
change_said slot view (message.Confirm n w d) = None
change_said slot view (message.Change n w c) = when (at slot view n w) (Some c)
change_said slot view (message.Done n e) = None

abbrev pub done_said : ℕ → OrderMessage → Option Proposed
done_said slot (message.Propose n w e) = None
done_said slot (message.Echo n w d) = None
done_said slot (message.Confirm n w d) = None
done_said slot (message.Change n w c) = None
done_said slot (message.Done n e) = when (n == slot) (Some e)

-- the digest and view of an echo of the slot
abbrev pub echo_in : ℕ → OrderMessage → Option (List ℕ × ℕ)
echo_in slot (message.Propose n w e) = None
echo_in slot (message.Echo n w d) = when (n == slot) (Some (d, w))
echo_in slot (message.Confirm n w d) = None
echo_in slot (message.Change n w c) = None
echo_in slot (message.Done n e) = None

-- it is a change of the slot to this view or a later one
abbrev pub is_change_from : ℕ → ℕ → OrderMessage → Bool
is_change_from slot view (message.Propose n w e) = false
is_change_from slot view (message.Echo n w d) = false
is_change_from slot view (message.Confirm n w d) = false
is_change_from slot view (message.Change n w c) = (n == slot) && nat_le view w
is_change_from slot view (message.Done n e) = false

-- two messages are of the same kind, slot and view
abbrev pub is_like : OrderMessage → OrderMessage → Bool
is_like (message.Propose n w e) (message.Propose m v f) = at m v n w
is_like (message.Echo n w d) (message.Echo m v f) = at m v n w
is_like (message.Confirm n w d) (message.Confirm m v f) = at m v n w
is_like (message.Change n w c) (message.Change m v f) = at m v n w
is_like (message.Done n e) (message.Done m f) = n == m
is_like m k = false

-- What was taken of a member.
abbrev pub took : (OrderMessage → Bool) → Facts → ℕ → Bool
took test [] member = false
took test (fact ∷ facts) member = ((fact.0 == member) && test fact.1) || took test facts member

abbrev pub first_of : {A : Type 0} → (OrderMessage → Option A) → Facts → ℕ → Option A
first_of said [] member = None
first_of said (fact ∷ facts) member = or_else (when (fact.0 == member) (said fact.1)) (first_of said facts member)

-- how many members' message is exactly this
abbrev pub count_of : Sight → (OrderMessage → Bool) → ℕ
count_of s test = count_below (member_count s) (took test s.taken)

-- the limits that messages keep
abbrev pub rises : List (List ℕ × ℕ) → Bool
rises [] = true
rises (line ∷ lines) = list_all (λ (later : List ℕ × ℕ). is_lt (slice_cmp nat_cmp line.0 later.0)) lines && rises lines

-- a digest at a view below
abbrev pub is_below : ℕ → ℕ → List ℕ → Bool
is_below bound view digest = nat_lt view bound && digest_fits digest

-- what a change to a view tells: no pair, or one of an earlier view
abbrev pub pair_below : ℕ → Option (ℕ × List ℕ) → Bool
pair_below view None = true
pair_below view (Some pair) = is_below view pair.0 pair.1

-- and rising digests, as many as may be echoed in a slot, each at an earlier view
abbrev pub lists_echoes : ℕ → List (List ℕ × ℕ) → Bool
lists_echoes view lines =
    (rises lines && nat_le (length lines) MOST_ECHOED)
    && list_all (λ (line : List ℕ × ℕ). is_below view line.1 line.0) lines

abbrev pub is_place : ℕ → ℕ → Bool
is_place slot view = nat_le slot last_slot && nat_lt view view_bound

abbrev pub proper : OrderMessage → Bool
proper (message.Propose n w e) = is_place n w
proper (message.Echo n w d) = is_place n w && digest_fits d
proper (message.Confirm n w d) = is_place n w && digest_fits d
proper (message.Change n w c) = (is_place n w && (nat_lt 0 w && pair_below w c.prepared)) && lists_echoes w c.echoed
proper (message.Done n e) = is_place n 0
