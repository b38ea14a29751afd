-- What is kept of the open slot gives the rules of what the member sees.
use Rattle.std.proofs.Common.{◌≡◌, ◌==◌, Bool, true, false, Option, Some, None, refl, sym, ap, ◌∙◌, eqb-true}
use Rattle.std.proofs.Math.Path.{fun_ext}
use Rattle.cs_order.specs.declared.proposed.Proposed.{Proposed}
use Rattle.cs_order_rules.specs.Slot.{chosen, to_confirm}
use Rattle.cs_order_rules.specs.Facts.{Sight, open_slot, leader, proposal_said, first_of}
use Rattle.cs_order_rules.specs.Rules.{own, view_to_enter, confirming, choice, pending, may_propose, change_told, resend_sent, left_to_do, proposal, if_may_echo}
use Rattle.cs_order_open.specs.Shows.{KeptOpenSlot, ShowsSlot}
use Rattle.cs_order_open.specs.laws.Seeing.{same_either_way}
use Rattle.cs_order_open.specs.Look.{Look, look, look_of, entering_by, change_by, pending_by, if_may_by, own_proposal, may_by, resend_by, left_by}

pub looks : (k : KeptOpenSlot) (s : Sight) → ShowsSlot k s (open_slot s) s.view → look_of k ≡ look s
looks k s shows =
    let told = fun_ext (λ v. fun_ext (λ m. shows.told v m)) in
    let reached = fun_ext (λ v. fun_ext (λ m. shows.reached v m)) in
    λ i. record { seen = shows.seen i; f = shows.same_f i; told = told i; reached = reached i; echoed = shows.echoed i }

-- the member's own proposal is that of its view, where it leads it
own_is : (k : KeptOpenSlot) (s : Sight) (b : Bool) → ShowsSlot k s (open_slot s) s.view → (leader s s.view == s.me) ≡ b → own_proposal (look s) ≡ own proposal_said s
own_is k s true shows leads =
    let same = eqb-true (leader s s.view) s.me leads in
    rw leads (ap (λ j. first_of (proposal_said (open_slot s) s.view) s.taken j) same)
own_is k s false shows leads =
    let other : (s.me == leader s s.view) ≡ false = same_either_way s.me (leader s s.view) ∙ leads in
    rw leads (sym (shows.led_only s.view s.me other))

pub own_proposal_is : (k : KeptOpenSlot) (s : Sight) → ShowsSlot k s (open_slot s) s.view → own_proposal (look_of k) ≡ own proposal_said s
own_proposal_is k s shows = ap own_proposal (looks k s shows) ∙ own_is k s (leader s s.view == s.me) shows refl

pub choice_is : (k : KeptOpenSlot) (s : Sight) → ShowsSlot k s (open_slot s) s.view → chosen (look_of k).seen ≡ choice s
choice_is k s shows = ap (λ (x : Look). chosen x.seen) (looks k s shows)

pub entering_is : (k : KeptOpenSlot) (s : Sight) → ShowsSlot k s (open_slot s) s.view → entering_by (look_of k) ≡ view_to_enter s
entering_is k s shows = ap entering_by (looks k s shows)

pub confirming_is : (k : KeptOpenSlot) (s : Sight) → ShowsSlot k s (open_slot s) s.view → to_confirm (look_of k).seen ≡ confirming s
confirming_is k s shows = ap (λ (x : Look). to_confirm x.seen) (looks k s shows)

pub change_is : (k : KeptOpenSlot) (s : Sight) → ShowsSlot k s (open_slot s) s.view → change_by (look_of k) ≡ change_told s
change_is k s shows = ap change_by (looks k s shows)

pub pending_is : (k : KeptOpenSlot) (s : Sight) → ShowsSlot k s (open_slot s) s.view → pending_by (look_of k) ≡ pending s
pending_is k s shows = ap pending_by (looks k s shows) ∙ same (proposal s s.view)
  where
    same : (o : Option Proposed) → if_may_by (look s) o ≡ if_may_echo s o
    same None = refl
    same (Some e) = refl

may_at : (s : Sight) (o : Option Proposed) → own_proposal (look s) ≡ o → o ≡ own proposal_said s → may_by (look s) ≡ may_propose s
may_at s o is mine = rw (is, mine) refl

pub may_is : (k : KeptOpenSlot) (s : Sight) → ShowsSlot k s (open_slot s) s.view → may_by (look_of k) ≡ may_propose s
may_is k s shows = ap may_by (looks k s shows) ∙ may_at s (own_proposal (look s)) refl (own_is k s (leader s s.view == s.me) shows refl)

resend_at : (s : Sight) (o : Option Proposed) → own_proposal (look s) ≡ o → o ≡ own proposal_said s → resend_by (look s) ≡ resend_sent s
resend_at s o is mine = rw (is, mine) refl

pub resend_is : (k : KeptOpenSlot) (s : Sight) → ShowsSlot k s (open_slot s) s.view → resend_by (look_of k) ≡ resend_sent s
resend_is k s shows = ap resend_by (looks k s shows) ∙ resend_at s (own_proposal (look s)) refl (own_is k s (leader s s.view == s.me) shows refl)

left_at : (s : Sight) (o : Option Proposed) → own_proposal (look s) ≡ o → o ≡ own proposal_said s → left_by (look s) ≡ left_to_do s
left_at s o is mine = rw (is, mine) refl

pub left_is : (k : KeptOpenSlot) (s : Sight) → ShowsSlot k s (open_slot s) s.view → left_by (look_of k) ≡ left_to_do s
left_is k s shows = ap left_by (looks k s shows) ∙ left_at s (own_proposal (look s)) refl (own_is k s (leader s s.view == s.me) shows refl)
