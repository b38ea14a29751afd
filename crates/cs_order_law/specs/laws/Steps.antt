-- Each deed of a member is a step, and hands out what the member has said or chosen.
use Rattle.std.proofs.Common.{◌≡◌, ◌≢◌, ℕ, ◌+◌, ◌*◌, ◌≤◌, ◌<◌, ◌==◌, nat_lt, Bool, true, false, ◌||◌, if◌then◌else◌, List, [], ◌∷◌, ◌++◌, length-append, Option, Some, None, IsSome, slice_get, ◌⊎◌, inl, inr, refl, sym, ap, ◌∙◌, subst, arith, ◌^◌, min, ltb-true}
use Rattle.cs_order_law.specs.laws.SafeFacts.{and_right}
use Rattle.cs_base.specs.Lists.{IsIn}
use Rattle.cs_order.specs.Deeds.{Deed, Member, did, sent_by, kept_from, entry_from, entry_of_slot}
use Rattle.cs_order.specs.Runs.{KeepsRules, IsFor}
use Rattle.cs_order.specs.Deeds as deed
use Rattle.cs_order.specs.Limits.{view_bound}
use Rattle.cs_order.specs.declared.proposed.Proposed.{Proposed}
use Rattle.cs_order.specs.declared.answers.Outgoing.{Outgoing}
use Rattle.cs_order.specs.declared.answers.Step.{Step}
use Rattle.cs_order.specs.declared.answers.Step.TheVariants as step
use Rattle.cs_order_rules.specs.declared.message.OrderMessage.{OrderMessage}
use Rattle.cs_order_rules.specs.declared.message.OrderMessage.TheVariants as message
use Rattle.cs_order_rules.specs.Facts.{Sight, open_slot, proposal_said, echo_said, confirm_said, change_said}
use Rattle.cs_order_rules.specs.Rules.{choice, view_to_enter, confirming, step_by, sent_by_rules as advance_by, pending, echo_sent, propose_sent, change_to, change_told, to_all, is_slot_over, wait_grows, sent_again, own, resend_sent, reply_with}
use Rattle.cs_order_rules.specs.SlotMachine.{slot_machine, sight, has_echoed}
use Rattle.cs_order_law.specs.laws.SlotFacts.{first_of_is, proposal_said_is, echo_said_is, confirm_said_is, change_said_is}
use Rattle.cs_order_law.specs.laws.RuleFacts.{Chooses, choice_is, entering_is, to_confirm_is}
use Rattle.cs_order_law.specs.laws.Sound.{SlotAct, MayNew, StepOf, Sound}

-- the member has said the message, or has chosen what it tells
abbrev pub Vouches : Sight → OrderMessage → Type 0
Vouches s (message.Propose n w e) = IsIn (s.me, message.Propose n w e) s.taken
Vouches s (message.Echo n w d) = IsIn (s.me, message.Echo n w d) s.taken
Vouches s (message.Confirm n w d) = IsIn (s.me, message.Confirm n w d) s.taken
Vouches s (message.Change n w c) = IsIn (s.me, message.Change n w c) s.taken
Vouches s (message.Done n e) = slice_get s.log n ≡ Some e

abbrev pub SentOk : Sight → List (Outgoing OrderMessage) → Type 0
SentOk t sent = (m : OrderMessage) (to : ℕ) → IsFor m to sent → Vouches t m

abbrev with_said : Sight → OrderMessage → ℕ → ℕ → Sight
with_said s m view wait = record { f = s.f; me = s.me; taken = (s.me, m) ∷ s.taken; log = s.log; view = view; wait = wait; views = s.views }

pub vouch_new : (act : SlotAct) (s t : Sight) (m : OrderMessage) → MayNew act s t m → IsIn (t.me, m) t.taken → Vouches t m
vouch_new act s t (message.Propose n w e) h k = k
vouch_new act s t (message.Echo n w d) h k = k
vouch_new act s t (message.Confirm n w d) h k = k
vouch_new act s t (message.Change n w c) h k = k
vouch_new act s t (message.Done n e) h k = absurd h

pub vouch_old : (s : Sight) → Sound s → (m : OrderMessage) → IsIn (s.me, m) s.taken → Vouches s m
vouch_old s sound (message.Propose n w e) k = k
vouch_old s sound (message.Echo n w d) k = k
vouch_old s sound (message.Confirm n w d) k = k
vouch_old s sound (message.Change n w c) k = k
vouch_old s sound (message.Done n e) k = absurd (sound.no_own_done n e k)

-- a deed is a step that hands out what is vouched for
abbrev pub IsStep : SlotAct → Sight → Sight → List (Outgoing OrderMessage) → Type 0
IsStep act s t sent = StepOf act s t × (Sound s → SentOk t sent)

said_step : (act : SlotAct) (s : Sight) (m : OrderMessage) (view wait : ℕ) → MayNew act s (with_said s m view wait) m → s.view ≤ view → (s.view < s.views → view < s.views) → IsStep act s (with_said s m view wait) (to_all m)
said_step act s m view wait new up small = (
  record {
    same_f = refl;
    same_me = refl;
    kept = λ x h. inr h;
    adds = λ x h. elim h [
      | inl e ↦ inr (inr (ap (λ (y : ℕ × OrderMessage). y.0) e, subst (λ n. MayNew act s (with_said s m view wait) n) (ap (λ (y : ℕ × OrderMessage). y.1) (sym e)) new))
      | inr old ↦ inl old
    ];
    small = small;
    place = inr (refl, up);
    log = inl refl;
  },
  λ sound k to h. elim h [ inl one ↦ subst (λ n. Vouches (with_said s m view wait) n) one.0 (vouch_new act s (with_said s m view wait) m new (inl refl)) | inr none ↦ absurd none ],
)

-- nothing changes but the wait
still_step : (act : SlotAct) (s : Sight) (wait : ℕ) → StepOf act s (record s { wait = wait })
still_step act s wait =
    record {
      same_f = refl;
      same_me = refl;
      kept = λ x h. h;
      adds = λ x h. inl h;
      small = λ h. h;
      place = inr (refl, (let z : ℕ = 0 in omega arith));
      log = inl refl;
    }

taken_step : (s : Sight) (from : ℕ) (m : OrderMessage) → from ≢ s.me → StepOf (deed.Took_in from m) s (record s { taken = (from, m) ∷ s.taken })
taken_step s from m other =
    record {
      same_f = refl;
      same_me = refl;
      kept = λ x h. inr h;
      adds = λ x h. elim h [
        | inl e ↦ inr (inl (ap (λ (y : ℕ × OrderMessage). let a : SlotAct = deed.Took_in y.0 y.1 in a) (sym e), rw e other))
        | inr old ↦ inl old
      ];
      small = λ h. h;
      place = inr (refl, (let z : ℕ = 0 in omega arith));
      log = inl refl;
    }

chosen_step : (act : SlotAct) (s : Sight) (e : Proposed) → Chooses s e → StepOf act s (record { f = s.f; me = s.me; taken = s.taken; log = s.log ++ e ∷ []; view = 0; wait = 0; views = s.views })
chosen_step act s e chooses =
    record {
      same_f = refl;
      same_me = refl;
      kept = λ x h. h;
      adds = λ x h. inl h;
      small = λ h. omega arith;
      place = inl (simp length-append (omega arith));
      log = inr (e, chooses, refl);
    }

abbrev Goal : Member OrderMessage → SlotAct → Type 0
Goal h act = IsStep act (sight h) (sight (did act h)) (sent_by act)

advance_step : (h : Member OrderMessage) (c : Option Proposed) (w : Option ℕ) (d : Option (List ℕ)) → choice (sight h) ≡ c → view_to_enter (sight h) ≡ w → confirming (sight h) ≡ d → (x : Step) (sent : List (Outgoing OrderMessage)) → step_by c w d ≡ x → (x ≡ step.Quiet → ⊥) → advance_by (sight h) c w d ≡ sent → Goal h (deed.Advanced x sent)
advance_step h (Some e) w d p q r x sent is moved same =
    rw (← is, ← same) (chosen_step (deed.Advanced (step.Chosen e) []) (sight h) e (choice_is (sight h) e p).1, λ sound k to none. absurd none)
advance_step h None (Some w) d p q r x sent is moved same =
    let s = sight h in
    let above = (entering_is s w q).0 in
    rw (← is, ← same) (said_step (deed.Advanced step.Moved (change_to s w)) s (message.Change (open_slot s) w (change_told s)) w 0 (refl, refl, refl, above, refl) (omega arith) (λ h. (entering_is s w q).1))
advance_step h None None (Some d) p q r x sent is moved same =
    let s = sight h in
    let m : OrderMessage = message.Confirm (open_slot s) s.view d in
    rw (← is, ← same) (said_step (deed.Advanced step.Moved (to_all m)) s m s.view s.wait (refl, refl, refl, refl, to_confirm_is s d r) (let z : ℕ = 0 in omega arith) (λ h. h))
advance_step h None None None p q r x sent is moved same = absurd (moved (sym is))

echo_step : (h : Member OrderMessage) (o : Option Proposed) (sent : List (Outgoing OrderMessage)) → pending (sight h) ≡ o → IsSome o → echo_sent (sight h) o ≡ sent → Goal h (deed.Echoed sent)
echo_step h None sent p some same = absurd (let k = some in cc)
echo_step h (Some e) sent p some same =
    let s = sight h in
    let m : OrderMessage = message.Echo (open_slot s) s.view e.digest in
    rw (← same) (said_step (deed.Echoed (to_all m)) s m s.view s.wait (refl, refl, refl, refl, (to_all m, refl), (e, p, refl)) (let z : ℕ = 0 in omega arith) (λ h. h))

over_view : (s : Sight) (due : Bool) → is_slot_over s due ≡ true → s.view + 1 < view_bound
over_view s due h = ltb-true (s.view + 1) view_bound (and_right (s.wait + 1 == 8 * 2 ^ min s.view 10) _ (and_right (wait_grows s due) _ h))

tick_step : (h : Member OrderMessage) (due b : Bool) (sent : List (Outgoing OrderMessage)) → is_slot_over (sight h) due ≡ b → (if b then change_to (sight h) ((sight h).view + 1) else []) ≡ sent → Goal h (deed.Ticked due sent)
tick_step h due true sent over same =
    let s = sight h in
    rw (← same) (said_step (deed.Ticked due (change_to s (s.view + 1))) s (message.Change (open_slot s) (s.view + 1) (change_told s)) (s.view + 1) 0 (refl, refl, refl, (let z : ℕ = 0 in omega arith), refl) (let z : ℕ = 0 in omega arith) (λ h. (let below = over_view s due over in omega arith)))
tick_step h due false sent over same =
    let s = sight h in
    rw (← same) (still_step (deed.Ticked due []) s (if due || has_echoed h.me h.deeds then s.wait + 1 else s.wait), λ sound k to none. absurd none)

-- What is sent again was said.
for_either : (m : OrderMessage) (to : ℕ) (xs ys : List (Outgoing OrderMessage)) → IsFor m to (xs ++ ys) → IsFor m to xs ⊎ IsFor m to ys
for_either m to [] ys h = inr h
for_either m to (x ∷ xs) ys (inl h) = inl (inl h)
for_either m to (x ∷ xs) ys (inr h) = elim (for_either m to xs ys h) [ inl k ↦ inl (inr k) | inr k ↦ inr k ]

again_is : {A : Type 0} (name : A → OrderMessage) (o : Option A) (m : OrderMessage) (to : ℕ) → IsFor m to (sent_again name o) → (x : A) × (o ≡ Some x) × (name x ≡ m)
again_is name None m to h = absurd h
again_is name (Some x) m to h = elim h [ inl one ↦ (x, refl, one.0) | inr none ↦ absurd none ]

said_again : {A : Type 0} (said : ℕ → ℕ → OrderMessage → Option A) (name : ℕ → ℕ → A → OrderMessage) (is : (n w : ℕ) (x : A) (m : OrderMessage) → said n w m ≡ Some x → m ≡ name n w x) (s : Sight) (m : OrderMessage) (to : ℕ) → IsFor m to (sent_again (name (open_slot s) s.view) (own said s)) → IsIn (s.me, m) s.taken
said_again said name is s m to h =
    let r = again_is (name (open_slot s) s.view) (own said s) m to h in
    let p = first_of_is (said (open_slot s) s.view) s.taken s.me r.0 r.1 in
    subst (λ k. IsIn (s.me, k) s.taken) (is (open_slot s) s.view r.0 p.0 p.2 ∙ r.2) p.1

one_of_four : (P : Type 0) (m : OrderMessage) (to : ℕ) (xs ys zs us : List (Outgoing OrderMessage)) → (IsFor m to xs → P) → (IsFor m to ys → P) → (IsFor m to zs → P) → (IsFor m to us → P) → IsFor m to (xs ++ ys ++ zs ++ us) → P
one_of_four P m to xs ys zs us a b c d h =
    elim (for_either m to (xs ++ ys ++ zs) us h) [
      | inl k ↦ elim (for_either m to (xs ++ ys) zs k) [
        | inl l ↦ elim (for_either m to xs ys l) [ inl n ↦ a n | inr n ↦ b n ]
        | inr l ↦ c l
      ]
      | inr k ↦ d k
    ]

resent : (s : Sight) (m : OrderMessage) (to : ℕ) → IsFor m to (resend_sent s) → IsIn (s.me, m) s.taken
resent s m to h =
    one_of_four (IsIn (s.me, m) s.taken) m to
    (sent_again (message.Propose (open_slot s) s.view) (own proposal_said s))
    (sent_again (message.Echo (open_slot s) s.view) (own echo_said s))
    (sent_again (message.Confirm (open_slot s) s.view) (own confirm_said s))
    (sent_again (message.Change (open_slot s) s.view) (own change_said s))
    (said_again proposal_said (λ n w x. message.Propose n w x) proposal_said_is s m to)
    (said_again echo_said (λ n w x. message.Echo n w x) echo_said_is s m to)
    (said_again confirm_said (λ n w x. message.Confirm n w x) confirm_said_is s m to)
    (said_again change_said (λ n w x. message.Change n w x) change_said_is s m to)
    h

reply_is : (slot to : ℕ) (o : Option Proposed) (out : Outgoing OrderMessage) → reply_with slot to o ≡ Some out → (e : Proposed) × (o ≡ Some e) × (out.message ≡ message.Done slot e)
reply_is slot to None out h = cc
reply_is slot to (Some e) out h = (e, refl, (let given : Outgoing OrderMessage = record { to = Some to; message = message.Done slot e } in let same : given ≡ out = cc in ap (λ (y : Outgoing OrderMessage). y.message) (sym same)))

-- an entry that is given is chosen
given_is : (first : ℕ) (log : List Proposed) (slot : ℕ) (e : Proposed) → entry_from first log slot ≡ Some e → slice_get log slot ≡ Some e
given_is first log slot e = by_place (nat_lt slot first)
  where
    by_place : (b : Bool) → (if b then None else slice_get log slot) ≡ Some e → slice_get log slot ≡ Some e
    by_place true h = cc
    by_place false h = h

reply_step : (h : Member OrderMessage) (slot to : ℕ) (sent : List (Outgoing OrderMessage)) (out : Outgoing OrderMessage) → reply_with slot to (entry_of_slot h.deeds slot) ≡ Some out → sent ≡ out ∷ [] → Goal h (deed.Replied slot to sent)
reply_step h slot to sent out is same =
    let r = reply_is slot to (entry_of_slot h.deeds slot) out is in
    let chosen = given_is (kept_from h.deeds) (sight h).log slot r.0 r.1 in
    rw same (still_step (deed.Replied slot to (out ∷ [])) (sight h) (sight h).wait, λ sound m k one. elim one [ inl it ↦ subst (λ n. Vouches (sight h) n) (sym r.2 ∙ it.0) chosen | inr none ↦ absurd none ])

-- each deed that keeps the rules is a step
pub step_of : (h : Member OrderMessage) (act : SlotAct) → KeepsRules slot_machine h act → Goal h act
step_of h (deed.Took_in from m) keeps = (taken_step (sight h) from m keeps.1, λ sound k to none. absurd none)
step_of h (deed.Advanced x sent) keeps = advance_step h (choice (sight h)) (view_to_enter (sight h)) (confirming (sight h)) refl refl refl x sent keeps.0 keeps.1 keeps.2
step_of h (deed.Echoed sent) keeps = echo_step h (pending (sight h)) sent refl keeps.0 keeps.1
step_of h (deed.Proposing e sent) keeps =
    let s = sight h in
    rw (← keeps.1) (said_step (deed.Proposing e (propose_sent s e)) s (message.Propose (open_slot s) s.view e) s.view s.wait (refl, refl, refl, (propose_sent s e, refl)) (let z : ℕ = 0 in omega arith) (λ h. h))
step_of h (deed.Ticked due sent) keeps = tick_step h due (is_slot_over (sight h) due) sent refl keeps
step_of h (deed.Resent sent) keeps = (still_step (deed.Resent sent) (sight h) (sight h).wait, λ sound m to one. vouch_old (sight h) sound m (resent (sight h) m to (rw keeps one)))
step_of h (deed.Replied slot to sent) keeps = reply_step h slot to sent keeps.0 keeps.1 keeps.2
step_of h (deed.Cut slot) keeps = (still_step (deed.Cut slot) (sight h) (sight h).wait, λ sound k to none. absurd none)
