-- What the rules look at in the open slot, and the rules on that.
use Rattle.std.specs.List.{list_any, filter_map}
use Rattle.std.specs.Prelude.{ℕ, ◌+◌, ◌*◌, ◌%◌, ◌==◌, nat_lt, nat_le, bytes_eq, Bool, not, ◌&&◌, ◌||◌, if◌then◌else◌, List, ◌++◌, length, Option, Some, None, is_some}
use Rattle.cs_order.specs.declared.proposed.Proposed.{Proposed}
use Rattle.cs_order.specs.declared.answers.Outgoing.{Outgoing}
use Rattle.cs_order.specs.declared.answers.May.{May}
use Rattle.cs_order.specs.declared.answers.May.TheVariants.{No, Free, Only}
use Rattle.cs_base.specs.declared.limits.TheConstants.{MOST_ECHOED}
use Rattle.cs_order.specs.Counts.{count_below, last_below, when}
use Rattle.cs_order_rules.specs.declared.message.Change.{Change}
use Rattle.cs_order_rules.specs.declared.message.OrderMessage.{OrderMessage}
use Rattle.cs_order_rules.specs.declared.message.OrderMessage.TheVariants as message
use Rattle.cs_order_rules.specs.Safe.{is_free_view, is_safe}
use Rattle.cs_order_rules.specs.Slot.{Seen, proposal_of, prepared}
use Rattle.cs_order_rules.specs.Facts.{Sight, open_slot, change_said, is_change_from, took, first_of}
use Rattle.cs_order_rules.specs.Rules.{seen_now, echoed_in, pairs_below, sent_again, one_unless}
use Rattle.cs_slot.specs.Kept.{seen_in}
use Rattle.cs_change.specs.Kept.{change_in, reaches}
use Rattle.cs_order_open.specs.Shows.{KeptOpenSlot}

pub record Look : Type 0 where
  pub seen : Seen
  pub f : ℕ
  pub told : ℕ → ℕ → Option Change  -- by view and member
  pub reached : ℕ → ℕ → Bool
  pub echoed : List (List ℕ × ℕ)

-- of what is kept
abbrev pub look_of : KeptOpenSlot → Look
look_of k = record {
  seen = seen_in k.slot;
  f = k.changes.f;
  told = change_in k.changes.changes;
  reached = reaches k.changes.furthest;
  echoed = k.echoed;
}

-- of what a member sees
abbrev pub look : Sight → Look
look s = record {
  seen = seen_now s;
  f = s.f;
  told = λ view. first_of (change_said (open_slot s) view) s.taken;
  reached = λ view. took (is_change_from (open_slot s) view) s.taken;
  echoed = echoed_in s.me (open_slot s) s.taken;
}

-- enter
abbrev pub is_reached : Look → ℕ → Bool
is_reached x view = nat_lt x.seen.view view && nat_le (x.f + 1) (count_below (3 * x.f + 1) (x.reached view))

abbrev pub entering_by : Look → Option ℕ
entering_by x = last_below x.seen.views (is_reached x)

-- what a change tells
abbrev pub change_by : Look → Change
change_by x = record { prepared = prepared x.seen; echoed = x.echoed }

-- echo
abbrev pub free_by : Look → Bool
free_by x = is_free_view x.f (x.told x.seen.view)

abbrev pub safe_by : Look → List ℕ → Bool
safe_by x digest = is_safe x.f (x.told x.seen.view) x.seen.view digest

abbrev pub has_place_by : Look → List ℕ → Bool
has_place_by x digest =
    nat_lt (length x.echoed) MOST_ECHOED || list_any (λ (line : List ℕ × ℕ). bytes_eq line.0 digest) x.echoed

-- what the member itself echoed and confirmed in its view, and told as it entered it
abbrev pub own_echo : Look → Option (List ℕ)
own_echo x = x.seen.echo x.seen.view x.seen.me

abbrev pub own_confirm : Look → Option (List ℕ)
own_confirm x = x.seen.confirm x.seen.view x.seen.me

abbrev pub own_change : Look → Option Change
own_change x = x.told x.seen.view x.seen.me

abbrev pub may_echo_by : Look → List ℕ → Bool
may_echo_by x digest =
    (((x.seen.view == 0) || safe_by x digest) && not (is_some (own_echo x))) && has_place_by x digest

abbrev pub if_may_by : Look → Option Proposed → Option Proposed
if_may_by x None = None
if_may_by x (Some e) = when (may_echo_by x e.digest) (Some e)

abbrev pub pending_by : Look → Option Proposed
pending_by x = if_may_by x (x.seen.proposal x.seen.view)

-- propose
abbrev pub leads_by : Look → Bool
leads_by x = (x.seen.n + x.seen.view) % (3 * x.seen.f + 1) == x.seen.me

abbrev pub own_proposal : Look → Option Proposed
own_proposal x = when (leads_by x) (x.seen.proposal x.seen.view)

abbrev pub candidate_by : Look → ℕ × List ℕ → Option Proposed
candidate_by x pair = when (safe_by x pair.1) (proposal_of x.seen pair.1)

abbrev pub candidates_by : Look → List Proposed
candidates_by x = filter_map (candidate_by x) (pairs_below (3 * x.seen.f + 1) (x.told x.seen.view))

abbrev pub may_by : Look → May
may_by x =
    if not (leads_by x) || is_some (own_proposal x)
    then No
    else (if (x.seen.view == 0) || free_by x then Free else Only (candidates_by x))

-- what is sent again
abbrev pub resend_by : Look → List (Outgoing OrderMessage)
resend_by x =
    sent_again (message.Propose x.seen.n x.seen.view) (own_proposal x)
    ++ sent_again (message.Echo x.seen.n x.seen.view) (own_echo x)
    ++ sent_again (message.Confirm x.seen.n x.seen.view) (own_confirm x)
    ++ sent_again (message.Change x.seen.n x.seen.view) (own_change x)

-- how many of proposing, echoing and confirming are left
abbrev pub left_by : Look → ℕ
left_by x =
    one_unless (own_proposal x) + (one_unless (own_echo x) + one_unless (own_confirm x))
