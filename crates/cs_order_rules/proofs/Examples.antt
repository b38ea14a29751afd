-- A view change after a confirm that was lost, and changes that make a digest safe, worked out by hand.
use Rattle.std.proofs.Common.{◌≡◌, ℕ, nat_le, Bool, true, false, List, [], ◌∷◌, ◌++◌, length, Option, Some, None, refl, if◌then◌else◌, replicate}
use Rattle.cs_order.specs.Counts.{count_below, any_below, first_below, last_below, last_found}
use Rattle.cs_order.specs.Limits.{view_bound}
use Rattle.cs_order.specs.Deeds.{Deed, Member, chosen_in}
use Rattle.cs_order.specs.Deeds as deed
use Rattle.cs_order.specs.declared.proposed.Proposed.{Proposed}
use Rattle.cs_order.specs.declared.answers.Took.{Took}
use Rattle.cs_order.specs.declared.answers.Took.TheVariants.{Taken, Old, Far, Leader, Repeat}
use Rattle.cs_order.specs.declared.answers.Step.TheVariants.{Chosen, Moved}
use Rattle.cs_order.specs.declared.answers.May.{May}
use Rattle.cs_order.specs.declared.answers.May.TheVariants.{No, Free, Only}
use Rattle.cs_order_rules.specs.declared.message.OrderMessage.{OrderMessage}
use Rattle.cs_order_rules.specs.declared.message.OrderMessage.TheVariants as message
use Rattle.cs_order_rules.specs.Facts.{Sight}
use Rattle.cs_order_rules.specs.Rules.{free, safe, verdict, to_all}
use Rattle.cs_order_rules.specs.SlotMachine.{slot_machine, sight}

abbrev d : List ℕ
d = replicate 32 7

abbrev other : List ℕ
other = replicate 32 8

abbrev x : Proposed
x = record { digest = d; bytes = 1 ∷ [] }

abbrev Deeds : Type 0
Deeds = List (Deed OrderMessage)

abbrev at : ℕ → Deeds → Member OrderMessage
at me deeds = record { f = 1; me = me; deeds = deeds }

-- What the machine says of a deed after these: the deed as it gives it, or None where it gives none.
abbrev took_by : Deed OrderMessage → Took → Option (Deed OrderMessage)
took_by it Taken = Some it
took_by it Old = None
took_by it Far = None
took_by it Leader = None
took_by it Repeat = None

abbrev echoed_by : Deed OrderMessage → Option Proposed → Option (Deed OrderMessage)
echoed_by it None = None
echoed_by it (Some e) = Some it

-- of the candidates the first is proposed
abbrev proposed_by : Member OrderMessage → Proposed → May → Option (Deed OrderMessage)
proposed_by h e No = None
proposed_by h e Free = Some (deed.Proposing e (slot_machine.proposing h e))
proposed_by h e (Only []) = None
proposed_by h e (Only (first ∷ rest)) = Some (deed.Proposing first (slot_machine.proposing h first))

abbrev given : Member OrderMessage → Deed OrderMessage → Option (Deed OrderMessage)
given h (deed.Took_in from m) =
    if slot_machine.proper m then took_by (deed.Took_in from m) (slot_machine.taking h from m) else None
given h (deed.Advanced step sent) = Some (deed.Advanced (slot_machine.step h) (slot_machine.advancing h))
given h (deed.Echoed sent) = echoed_by (deed.Echoed (slot_machine.echoing h)) (slot_machine.pending h)
given h (deed.Proposing e sent) = proposed_by h e (slot_machine.may_propose h)
given h (deed.Ticked due sent) = Some (deed.Ticked due (slot_machine.ticking h due))
given h (deed.Resent sent) = Some (deed.Resent (slot_machine.resending h))
given h (deed.Replied slot to sent) = None
given h (deed.Cut slot) = if nat_le slot (length (chosen_in h.deeds)) then Some (deed.Cut slot) else None

all_given : ℕ → Deeds → List (Option (Deed OrderMessage))
all_given me [] = []
all_given me (it ∷ past) = given (at me past) it ∷ all_given me past

all_some : Deeds → List (Option (Deed OrderMessage))
all_some [] = []
all_some (it ∷ past) = Some it ∷ all_some past

-- A view change after a confirm that was lost, among four members. Member 0 leads view 0 and member 1 view 1.
abbrev change_1 : OrderMessage
change_1 = message.Change 0 1 (record { prepared = Some (0, d); echoed = (d, 0) ∷ [] })

abbrev change_2 : OrderMessage
change_2 = message.Change 0 1 (record { prepared = None; echoed = (d, 0) ∷ [] })

abbrev change_3 : OrderMessage
change_3 = message.Change 0 1 (record { prepared = None; echoed = [] })

abbrev quiet_ticks : Deeds → Deeds
quiet_ticks past = deed.Ticked true [] ∷ deed.Ticked true [] ∷ deed.Ticked true [] ∷ deed.Ticked true [] ∷ deed.Ticked true [] ∷ deed.Ticked true [] ∷ deed.Ticked true [] ∷ past

-- member 0 proposes and echoes
abbrev deeds_0 : Deeds
deeds_0 =
    deed.Echoed (to_all (message.Echo 0 0 d))
    ∷ deed.Proposing x (to_all (message.Propose 0 0 x))
    ∷ []

-- member 1 is prepared in view 0, and the eighth tick brings it to view 1
abbrev entered_1 : Deeds
entered_1 =
    deed.Ticked true (to_all change_1)
    ∷ quiet_ticks
    (deed.Advanced Moved (to_all (message.Confirm 0 0 d))
    ∷ deed.Took_in 2 (message.Echo 0 0 d)
    ∷ deed.Took_in 0 (message.Echo 0 0 d)
    ∷ deed.Echoed (to_all (message.Echo 0 0 d))
    ∷ deed.Took_in 0 (message.Propose 0 0 x)
    ∷ [])

-- three members have no prepared pair or (0, d), and two echoed d: it proposes x again
abbrev safe_1 : Deeds
safe_1 = deed.Took_in 3 change_3 ∷ deed.Took_in 2 change_2 ∷ entered_1

abbrev deeds_1 : Deeds
deeds_1 =
    deed.Advanced (Chosen x) []
    ∷ deed.Took_in 3 (message.Confirm 0 1 d)
    ∷ deed.Took_in 2 (message.Confirm 0 1 d)
    ∷ deed.Advanced Moved (to_all (message.Confirm 0 1 d))
    ∷ deed.Took_in 3 (message.Echo 0 1 d)
    ∷ deed.Took_in 2 (message.Echo 0 1 d)
    ∷ deed.Echoed (to_all (message.Echo 0 1 d))
    ∷ deed.Proposing x (to_all (message.Propose 0 1 x))
    ∷ safe_1

-- what members 2 and 3 do in view 1
abbrev later : ℕ → Deeds → Deeds
later peer past =
    deed.Advanced (Chosen x) []
    ∷ deed.Took_in peer (message.Confirm 0 1 d)
    ∷ deed.Took_in 1 (message.Confirm 0 1 d)
    ∷ deed.Advanced Moved (to_all (message.Confirm 0 1 d))
    ∷ deed.Took_in peer (message.Echo 0 1 d)
    ∷ deed.Took_in 1 (message.Echo 0 1 d)
    ∷ deed.Echoed (to_all (message.Echo 0 1 d))
    ∷ deed.Took_in 1 (message.Propose 0 1 x)
    ∷ past

abbrev deeds_2 : Deeds
deeds_2 =
    later 3
    (deed.Took_in 3 change_3
    ∷ deed.Took_in 1 change_1
    ∷ deed.Ticked true (to_all change_2)
    ∷ quiet_ticks
    (deed.Echoed (to_all (message.Echo 0 0 d))
    ∷ deed.Took_in 0 (message.Propose 0 0 x)
    ∷ []))

abbrev deeds_3 : Deeds
deeds_3 = later 2 (deed.Took_in 2 change_2 ∷ deed.Took_in 1 change_1 ∷ deed.Ticked true (to_all change_3) ∷ quiet_ticks [])

given_0 : all_given 0 deeds_0 ≡ all_some deeds_0
unfolding all_given all_some count_below any_below first_below last_below last_found
given_0 = refl

given_1 : all_given 1 deeds_1 ≡ all_some deeds_1
unfolding all_given all_some count_below any_below first_below last_below last_found
given_1 = refl

given_2 : all_given 2 deeds_2 ≡ all_some deeds_2
unfolding all_given all_some count_below any_below first_below last_below last_found
given_2 = refl

given_3 : all_given 3 deeds_3 ≡ all_some deeds_3
unfolding all_given all_some count_below any_below first_below last_below last_found
given_3 = refl

-- by the second case alone
is_safe_at_1 : safe (sight (at 1 safe_1)) d ≡ true
unfolding count_below any_below first_below last_below last_found
is_safe_at_1 = refl

not_free_at_1 : free (sight (at 1 safe_1)) ≡ false
unfolding count_below any_below first_below last_below last_found
not_free_at_1 = refl

-- with one change fewer it may not
may_with_two : slot_machine.may_propose (at 1 (deed.Took_in 2 change_2 ∷ entered_1)) ≡ Only []
unfolding count_below any_below first_below last_below last_found
may_with_two = refl

may_with_three : slot_machine.may_propose (at 1 safe_1) ≡ Only (x ∷ [])
unfolding count_below any_below first_below last_below last_found
may_with_three = refl

sent_again : slot_machine.resending (at 1 deeds_1) ≡ []
unfolding count_below any_below first_below last_below last_found
sent_again = refl

sent_again_before : slot_machine.resending (at 1 (deed.Proposing x (to_all (message.Propose 0 1 x)) ∷ safe_1)) ≡ to_all (message.Propose 0 1 x) ++ to_all change_1
unfolding count_below any_below first_below last_below last_found
sent_again_before = refl

-- A member that echoed in two views tells both digests as it enters a third. In view 1 nothing was prepared, so member 1,
-- which leads it, proposes another entry than that of view 0.
abbrev y : Proposed
y = record { digest = other; bytes = 2 ∷ [] }

abbrev change_both : OrderMessage
change_both = message.Change 0 2 (record { prepared = None; echoed = (d, 0) ∷ (other, 1) ∷ [] })

abbrev twice_1 : Deeds
twice_1 =
    deed.Ticked true (to_all change_both)
    ∷ deed.Ticked true []
    ∷ quiet_ticks
    (quiet_ticks
    (deed.Echoed (to_all (message.Echo 0 1 other))
    ∷ deed.Proposing y (to_all (message.Propose 0 1 y))
    ∷ deed.Took_in 3 change_3
    ∷ deed.Took_in 2 change_3
    ∷ deed.Ticked true (to_all change_2)
    ∷ quiet_ticks
    (deed.Echoed (to_all (message.Echo 0 0 d))
    ∷ deed.Took_in 0 (message.Propose 0 0 x)
    ∷ [])))

given_twice : all_given 1 twice_1 ≡ all_some twice_1
unfolding all_given all_some count_below any_below first_below last_below last_found
given_twice = refl

both_are_proper : slot_machine.proper change_both ≡ true
both_are_proper = refl

-- Changes to view 1, taken by member 3.
abbrev with_changes : List (ℕ × OrderMessage) → Sight
with_changes taken = record { f = 1; me = 3; taken = taken; log = []; view = 1; wait = 0; views = view_bound }

abbrev three_changes : List (ℕ × OrderMessage)
three_changes = (2, change_2) ∷ (1, change_2) ∷ (0, message.Change 0 1 (record { prepared = Some (0, other); echoed = [] })) ∷ []

abbrev four_changes : List (ℕ × OrderMessage)
four_changes = (3, change_3) ∷ three_changes

safe_both : List (ℕ × OrderMessage) → List Bool
safe_both taken = safe (with_changes taken) d ∷ safe (with_changes taken) other ∷ []

neither_is_safe : safe_both three_changes ≡ false ∷ false ∷ []
unfolding safe_both count_below any_below first_below last_below
neither_is_safe = refl

both_are_safe : safe_both four_changes ≡ true ∷ true ∷ []
unfolding safe_both count_below any_below first_below last_below
both_are_safe = refl

second_is_repeated : verdict (with_changes four_changes) 0 change_3 ≡ Repeat
unfolding count_below any_below first_below last_below last_found
second_is_repeated = refl

-- A member that is cut answers for what it keeps alone, and goes on as before.
abbrev cut_1 : Deeds
cut_1 = deed.Cut 1 ∷ deeds_1

given_cut : given (at 1 deeds_1) (deed.Cut 1) ∷ given (at 1 deeds_1) (deed.Cut 2) ∷ [] ≡ Some (deed.Cut 1) ∷ None ∷ []
given_cut = refl

answers_before : slot_machine.replying (at 1 deeds_1) 0 2 ≡ Some (record { to = Some 2; message = message.Done 0 x })
answers_before = refl

answers_no_more : slot_machine.replying (at 1 cut_1) 0 2 ≡ None
answers_no_more = refl

sees_the_same : sight (at 1 cut_1) ≡ sight (at 1 deeds_1)
sees_the_same = refl
