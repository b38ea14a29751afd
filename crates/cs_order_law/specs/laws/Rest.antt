-- What is left to do falls with each deed of the rules, and is bounded.
use Rattle.std.proofs.Common.{◌≡◌, ℕ, ◌+◌, ◌^◌, ◌≤◌, ◌<◌, ◌==◌, Bool, true, false, not, ◌||◌, if◌then◌else◌, List, [], ◌∷◌, length, length-append, Option, Some, None, is_some, IsSome, refl, sym, ap, arith}
use Rattle.cs_order.specs.Deeds.{Deed, Member, did}
use Rattle.cs_order.specs.Runs.{KeepsRules}
use Rattle.cs_order.specs.Calls.{Proposable}
use Rattle.cs_order.specs.Limits.{last_slot, view_bound}
use Rattle.cs_order.specs.Deeds as deed
use Rattle.cs_order.specs.declared.proposed.Proposed.{Proposed}
use Rattle.cs_order.specs.declared.answers.Outgoing.{Outgoing}
use Rattle.cs_order.specs.declared.answers.Step.{Step}
use Rattle.cs_order.specs.declared.answers.Step.TheVariants as step
use Rattle.cs_order.specs.declared.answers.May.{May}
use Rattle.cs_order.specs.declared.answers.May.TheVariants.{No, Free, Only}
use Rattle.cs_order_rules.specs.declared.message.OrderMessage.{OrderMessage}
use Rattle.cs_order_rules.specs.declared.message.OrderMessage.TheVariants as message
use Rattle.cs_order_rules.specs.Facts.{Facts, Sight, open_slot, leader, proposal_said, echo_said, confirm_said, first_of}
use Rattle.cs_order_rules.specs.Rules.{own, choice, view_to_enter, confirming, step_by, sent_by_rules as advance_by, pending, echo_sent, may_propose, change_to, one_unless, left_to_do, rest_of, candidates, free}
use Rattle.cs_order_rules.specs.SlotMachine.{slot_machine, sight, slot_rest}
use Rattle.cs_order_law.specs.Terms.{IsRule}
use Rattle.cs_order_law.specs.laws.SlotFacts.{said_at, same_number, pending_is}
use Rattle.cs_order_law.specs.laws.RuleFacts.{choice_is, entering_is, to_confirm_is}

one_or_none : {A : Type 0} (o : Option A) → one_unless o ≤ 1
one_or_none None = omega arith
one_or_none (Some x) = omega arith

few_left : (s : Sight) → left_to_do s ≤ 3
few_left s = (let a = one_or_none (own proposal_said s) in let b = one_or_none (own echo_said s) in let c = one_or_none (own confirm_said s) in omega arith)

pub rest_bounded : (s : Sight) → rest_of s < 2 ^ 80
rest_bounded s = (let a = few_left s in omega arith)

-- the next slot
pub chosen_falls : (s t : Sight) → length s.log < last_slot → length t.log ≡ length s.log + 1 → rest_of t < rest_of s
chosen_falls s t room longer = (let a = few_left t in omega arith)

-- a later view of the slot
pub enter_falls : (s t : Sight) → length t.log ≡ length s.log → s.view < t.view → t.view < view_bound → rest_of t < rest_of s
enter_falls s t same above below = (let a = few_left t in omega arith)

-- what a member says of its own is found
own_this : {A : Type 0} (said : OrderMessage → Option A) (facts : Facts) (me : ℕ) (m : OrderMessage) (x : A) → said m ≡ Some x → first_of said ((me, m) ∷ facts) me ≡ Some x
own_this said facts me m x h = rw (same_number me, h) refl

own_other : {A : Type 0} (said : OrderMessage → Option A) (facts : Facts) (me : ℕ) (m : OrderMessage) → said m ≡ None → first_of said ((me, m) ∷ facts) me ≡ first_of said facts me
own_other said facts me m h = rw (same_number me, h) refl

undone : {A : Type 0} (o : Option A) → is_some o ≡ false → one_unless o ≡ 1
undone o h = rw h refl

abbrev told : Sight → OrderMessage → ℕ → Sight
told s m wait = record { f = s.f; me = s.me; taken = (s.me, m) ∷ s.taken; log = s.log; view = s.view; wait = wait; views = s.views }

pub propose_falls : (s : Sight) (e : Proposed) → is_some (own proposal_said s) ≡ false → rest_of (told s (message.Propose (open_slot s) s.view e) s.wait) < rest_of s
propose_falls s e h =
    let t = told s (message.Propose (open_slot s) s.view e) s.wait in
    let a : one_unless (own proposal_said t) ≡ 0 = ap (λ (o : Option Proposed). one_unless o) (own_this (proposal_said (open_slot s) s.view) s.taken s.me (message.Propose (open_slot s) s.view e) e (said_at (open_slot s) s.view e)) in
    let b : one_unless (own echo_said t) ≡ one_unless (own echo_said s) = ap (λ (o : Option (List ℕ)). one_unless o) (own_other (echo_said (open_slot s) s.view) s.taken s.me (message.Propose (open_slot s) s.view e) refl) in
    let c : one_unless (own confirm_said t) ≡ one_unless (own confirm_said s) = ap (λ (o : Option (List ℕ)). one_unless o) (own_other (confirm_said (open_slot s) s.view) s.taken s.me (message.Propose (open_slot s) s.view e) refl) in
    let d = undone (own proposal_said s) h in
    omega arith

pub echo_falls : (s : Sight) (digest : List ℕ) → is_some (own echo_said s) ≡ false → rest_of (told s (message.Echo (open_slot s) s.view digest) s.wait) < rest_of s
echo_falls s digest h =
    let t = told s (message.Echo (open_slot s) s.view digest) s.wait in
    let a : one_unless (own echo_said t) ≡ 0 = ap (λ (o : Option (List ℕ)). one_unless o) (own_this (echo_said (open_slot s) s.view) s.taken s.me (message.Echo (open_slot s) s.view digest) digest (said_at (open_slot s) s.view digest)) in
    let b : one_unless (own proposal_said t) ≡ one_unless (own proposal_said s) = ap (λ (o : Option Proposed). one_unless o) (own_other (proposal_said (open_slot s) s.view) s.taken s.me (message.Echo (open_slot s) s.view digest) refl) in
    let c : one_unless (own confirm_said t) ≡ one_unless (own confirm_said s) = ap (λ (o : Option (List ℕ)). one_unless o) (own_other (confirm_said (open_slot s) s.view) s.taken s.me (message.Echo (open_slot s) s.view digest) refl) in
    let d = undone (own echo_said s) h in
    omega arith

pub confirm_falls : (s : Sight) (digest : List ℕ) → is_some (own confirm_said s) ≡ false → rest_of (told s (message.Confirm (open_slot s) s.view digest) s.wait) < rest_of s
confirm_falls s digest h =
    let t = told s (message.Confirm (open_slot s) s.view digest) s.wait in
    let a : one_unless (own confirm_said t) ≡ 0 = ap (λ (o : Option (List ℕ)). one_unless o) (own_this (confirm_said (open_slot s) s.view) s.taken s.me (message.Confirm (open_slot s) s.view digest) digest (said_at (open_slot s) s.view digest)) in
    let b : one_unless (own proposal_said t) ≡ one_unless (own proposal_said s) = ap (λ (o : Option Proposed). one_unless o) (own_other (proposal_said (open_slot s) s.view) s.taken s.me (message.Confirm (open_slot s) s.view digest) refl) in
    let c : one_unless (own echo_said t) ≡ one_unless (own echo_said s) = ap (λ (o : Option (List ℕ)). one_unless o) (own_other (echo_said (open_slot s) s.view) s.taken s.me (message.Confirm (open_slot s) s.view digest) refl) in
    let d = undone (own confirm_said s) h in
    omega arith

abbrev Falls : Member OrderMessage → Deed OrderMessage → Type 0
Falls h act = slot_rest (did act h) < slot_rest h

advance_falls : (h : Member OrderMessage) → (c : Option Proposed) (w : Option ℕ) (d : Option (List ℕ)) → choice (sight h) ≡ c → view_to_enter (sight h) ≡ w → confirming (sight h) ≡ d → (x : Step) (sent : List (Outgoing OrderMessage)) → step_by c w d ≡ x → (x ≡ step.Quiet → ⊥) → advance_by (sight h) c w d ≡ sent → Falls h (deed.Advanced x sent)
advance_falls h (Some e) w d p q r x sent is moved same =
    rw (← is, ← same) (chosen_falls (sight h) (sight (did (deed.Advanced (step.Chosen e) []) h)) (choice_is (sight h) e p).0 (simp length-append refl))
advance_falls h None (Some w) d p q r x sent is moved same =
    let s = sight h in
    let r = entering_is s w q in
    let above = r.0 in
    let below = r.1 in
    rw (← is, ← same) (enter_falls s (sight (did (deed.Advanced step.Moved (change_to s w)) h)) refl above (omega arith))
advance_falls h None None (Some d) p q r x sent is moved same =
    let s = sight h in
    rw (← is, ← same) (confirm_falls s d (to_confirm_is s d r).1)
advance_falls h None None None p q r x sent is moved same = absurd (moved (sym is))

echoed_falls : (h : Member OrderMessage) (o : Option Proposed) (sent : List (Outgoing OrderMessage)) → pending (sight h) ≡ o → IsSome o → echo_sent (sight h) o ≡ sent → Falls h (deed.Echoed sent)
echoed_falls h None sent p some same = absurd (let k = some in cc)
echoed_falls h (Some e) sent p some same = rw (← same) (echo_falls (sight h) e.digest (pending_is (sight h) e p).none_yet)

may_by : (b : Bool) (m : May) (e : Proposed) → Proposable (if b then No else m) e → b ≡ false
may_by true m e h = absurd h
may_by false m e h = refl

right_false : (a b : Bool) → (a || b) ≡ false → b ≡ false
right_false true b h = cc
right_false false b h = h

pub none_proposed : (s : Sight) (e : Proposed) → Proposable (may_propose s) e → is_some (own proposal_said s) ≡ false
none_proposed s e h = right_false (not (leader s s.view == s.me)) (is_some (own proposal_said s)) (may_by (not (leader s s.view == s.me) || is_some (own proposal_said s)) (if (s.view == 0) || free s then Free else Only (candidates s)) e h)

-- each deed of the rules lowers it
pub rest_falls : (h : Member OrderMessage) (act : Deed OrderMessage) → KeepsRules slot_machine h act → IsRule act → Falls h act
rest_falls h (deed.Took_in from m) keeps rule = absurd rule
rest_falls h (deed.Advanced x sent) keeps rule = advance_falls h (choice (sight h)) (view_to_enter (sight h)) (confirming (sight h)) refl refl refl x sent keeps.0 keeps.1 keeps.2
rest_falls h (deed.Echoed sent) keeps rule = echoed_falls h (pending (sight h)) sent refl keeps.0 keeps.1
rest_falls h (deed.Proposing e sent) keeps rule = rw (← keeps.1) (propose_falls (sight h) e (none_proposed (sight h) e keeps.0))
rest_falls h (deed.Ticked due sent) keeps rule = absurd rule
rest_falls h (deed.Resent sent) keeps rule = absurd rule
rest_falls h (deed.Replied slot to sent) keeps rule = absurd rule
rest_falls h (deed.Cut slot) keeps rule = absurd rule

pub member_bounded : (h : Member OrderMessage) → slot_rest h < 2 ^ 80
member_bounded h = rest_bounded (sight h)
