-- The order is its replica, where that is whole.
use Rattle.std.proofs.Common.{◌≡◌, ℕ, ◌<◌, ◌≤◌, max, Bool, true, false, List, ◌++◌, length, Option, Some, None, IsSome, refl, sym, ap, ◌∙◌, subst}
use Rattle.cs_order.specs.Deeds.{Member, did, chosen_in, kept_from}
use Rattle.cs_order.specs.Deeds as deed
use Rattle.cs_order.specs.Calls.{Proposable, TakesIn, Advances, Echoes, Proposes, Ticks, Resends, Cuts, Lowers, taken_in, advanced}
use Rattle.cs_order.specs.declared.proposed.Proposed.{Proposed}
use Rattle.cs_order.specs.declared.answers.Took.{Took}
use Rattle.cs_order.specs.declared.answers.Took.TheVariants.{Taken, Old, Far, Leader, Repeat}
use Rattle.cs_order.specs.declared.answers.Step.{Step}
use Rattle.cs_order.specs.declared.answers.Step.TheVariants as step
use Rattle.cs_order_rules.specs.declared.message.OrderMessage.{OrderMessage}
use Rattle.cs_order_rules.specs.declared.message.OrderMessage.TheVariants as message
use Rattle.cs_order_rules.specs.Facts.{Sight, open_slot}
use Rattle.cs_order_rules.specs.Rules.{verdict, choice, view_to_enter, confirming, step_of, advance_sent, pending, echo_sent, propose_sent, tick_sent, is_slot_over, wait_grows}
use Rattle.cs_order_rules.specs.SlotMachine.{slot_machine, sight}
use Rattle.cs_order_open.specs.Look.{look_of, pending_by, resend_by}
use Rattle.cs_order_open.specs.laws.Looking.{resend_is}
use Rattle.cs_log.specs.declared.replica.Replica.{Replica}
use Rattle.cs_log.specs.Replicas.{KeptReplica, kept, Mirrors, after_taking, after_step, after_echo, after_tick, said, kept_rest}
use Rattle.cs_log.specs.Stands.{kept_if, ReplicaStandsFor, ReplicaStands, IsLed, f_of, me_of, awaited, allowed, rest_left}
use Rattle.cs_log.proofs.Calling.{Outs, takes, advances, lowers, echoes, echo_lowers, echo_stays, proposes, propose_lowers, ticks}

-- some deeds led to the replica
abbrev pub Witness : KeptReplica → Type 0
Witness k = (h : Member OrderMessage) × ReplicaStandsFor k h

pub led_as : (whole : Bool) (replica : Replica) → whole ≡ true → IsLed (kept_if whole replica) → Witness (kept replica)
led_as whole replica is led = subst (λ b. IsLed (kept_if b replica)) is led

pub now_is : (whole : Bool) (replica : Replica) (now : Option KeptReplica) → whole ≡ true → kept_if whole replica ≡ now → Some (kept replica) ≡ now
now_is whole replica now is view = ap (λ b. kept_if b replica) (sym is) ∙ view

-- what holds of the replica holds of what is kept of it, where that is whole
pub at_whole : (P : Option KeptReplica → Type 0) (whole : Bool) (replica : Replica) → whole ≡ true → P (Some (kept replica)) → P (kept_if whole replica)
at_whole P whole replica is p = subst P (ap (λ b. kept_if b replica) (sym is)) p

same_member : (k new : KeptReplica) (s t : Sight) → Mirrors k s → Mirrors new t → (t.f ≡ s.f) × (t.me ≡ s.me) → (new.f ≡ k.f) × (new.me ≡ k.me)
same_member k new s t p q same = (q.f ∙ same.0 ∙ sym p.f, q.me ∙ same.1 ∙ sym p.me)

-- what stands for a member's deeds stands for more of them, if they cut nothing
stands_on : (k new : KeptReplica) (h t : Member OrderMessage) → ReplicaStandsFor k h → new.log.first ≡ k.log.first → kept_from t.deeds ≡ kept_from h.deeds → Mirrors new (sight t) → ReplicaStandsFor new t
stands_on k new h t p uncut same mirrors = record { mirrors = mirrors; first = uncut ∙ p.first ∙ sym same }

taken_uncut : (x : Took) (from : ℕ) (m : OrderMessage) (h : Member OrderMessage) → kept_from (taken_in x from m h).deeds ≡ kept_from h.deeds
taken_uncut Taken from m h = refl
taken_uncut Old from m h = refl
taken_uncut Far from m h = refl
taken_uncut Leader from m h = refl
taken_uncut Repeat from m h = refl

advanced_uncut : (x : Step) (sent : Outs) (h : Member OrderMessage) → kept_from (advanced x sent h).deeds ≡ kept_from h.deeds
advanced_uncut (step.Chosen e) sent h = refl
advanced_uncut step.Moved sent h = refl
advanced_uncut step.Quiet sent h = refl

abbrev SameIn : Sight → Sight → Type 0
SameIn s t = (t.f ≡ s.f) × (t.me ≡ s.me)

-- take
abbrev pub TookBy : KeptReplica → KeptReplica → ℕ → OrderMessage → Took → Type 0
TookBy k new from m took = ((s : Sight) → Mirrors k s → (took ≡ verdict s from m) × Mirrors new (after_taking (verdict s from m) s from m)) × (new.log.first ≡ k.log.first)

taking_same : (x : Took) (s : Sight) (from : ℕ) (m : OrderMessage) → SameIn s (after_taking x s from m)
taking_same Taken s from m = (refl, refl)
taking_same Old s from m = (refl, refl)
taking_same Far s from m = (refl, refl)
taking_same Leader s from m = (refl, refl)
taking_same Repeat s from m = (refl, refl)

pub take_led : (k new : KeptReplica) (from : ℕ) (m : OrderMessage) (took : Took) → Witness k → TookBy k new from m took → Witness new
take_led k new from m took w made =
    let x = verdict (sight w.0) from m in
    let t = taken_in x from m w.0 in
    (t, stands_on k new w.0 t w.1 made.1 (taken_uncut x from m w.0) (takes w.0 from m new took (made.0 (sight w.0) w.1.mirrors)).1)

pub take_call : (k new : KeptReplica) (now : Option KeptReplica) (from : ℕ) (m : OrderMessage) (took : Took) → Some k ≡ now → TookBy k new from m took → (h : Member OrderMessage) → ReplicaStands now h → TakesIn slot_machine h from m took (λ t. ReplicaStandsFor new t)
take_call k new now from m took is made h stands =
    let p : ReplicaStandsFor k h = subst (λ o. ReplicaStands o h) (sym is) stands in
    let x = verdict (sight h) from m in
    let call = takes h from m new took (made.0 (sight h) p.mirrors) in
    (call.0, stands_on k new h (taken_in x from m h) p made.1 (taken_uncut x from m h) call.1)

pub take_same : (k new : KeptReplica) (now : Option KeptReplica) (from : ℕ) (m : OrderMessage) (took : Took) → Some k ≡ now → Witness k → TookBy k new from m took → (new.f ≡ f_of now) × (new.me ≡ me_of now)
take_same k new now from m took is w made = subst (λ o. (new.f ≡ f_of o) × (new.me ≡ me_of o)) is (same_member k new (sight w.0) (after_taking (verdict (sight w.0) from m) (sight w.0) from m) w.1.mirrors (made.0 (sight w.0) w.1.mirrors).1 (taking_same (verdict (sight w.0) from m) (sight w.0) from m))

-- advance
abbrev pub AdvancedBy : KeptReplica → KeptReplica → Step → Outs → Outs → Type 0
AdvancedBy k new x old out = ((s : Sight) → Mirrors k s → (x ≡ step_of s) × (out ≡ old ++ advance_sent s) × Mirrors new (after_step s (choice s) (view_to_enter s) (confirming s))) × (new.log.first ≡ k.log.first)

step_same : (s : Sight) (c : Option Proposed) (w : Option ℕ) (d : Option (List ℕ)) → SameIn s (after_step s c w d)
step_same s (Some e) w d = (refl, refl)
step_same s None (Some v) d = (refl, refl)
step_same s None None (Some digest) = (refl, refl)
step_same s None None None = (refl, refl)

pub advance_led : (k new : KeptReplica) (x : Step) (old out : Outs) → Witness k → AdvancedBy k new x old out → Witness new
advance_led k new x old out w made =
    let t = advanced (slot_machine.step w.0) (slot_machine.advancing w.0) w.0 in
    (t, stands_on k new w.0 t w.1 made.1 (advanced_uncut (slot_machine.step w.0) (slot_machine.advancing w.0) w.0) (advances w.0 new x old out (made.0 (sight w.0) w.1.mirrors)).2)

pub advance_call : (k new : KeptReplica) (now : Option KeptReplica) (x : Step) (old out : Outs) → Some k ≡ now → AdvancedBy k new x old out → (h : Member OrderMessage) → ReplicaStands now h → Advances slot_machine h x old out (λ t. ReplicaStandsFor new t)
advance_call k new now x old out is made h stands =
    let p : ReplicaStandsFor k h = subst (λ o. ReplicaStands o h) (sym is) stands in
    let call = advances h new x old out (made.0 (sight h) p.mirrors) in
    (call.0, call.1, stands_on k new h (advanced (slot_machine.step h) (slot_machine.advancing h) h) p made.1 (advanced_uncut (slot_machine.step h) (slot_machine.advancing h) h) call.2)

pub advance_falls : (k new : KeptReplica) (now : Option KeptReplica) (x : Step) (old out : Outs) → Some k ≡ now → Witness k → AdvancedBy k new x old out → Lowers (rest_left now) (kept_rest new) x
advance_falls k new now x old out is w made = subst (λ o. Lowers (rest_left o) (kept_rest new) x) is (lowers k new w.0 x old out w.1.mirrors (advances w.0 new x old out (made.0 (sight w.0) w.1.mirrors)))

pub advance_same : (k new : KeptReplica) (now : Option KeptReplica) (x : Step) (old out : Outs) → Some k ≡ now → Witness k → AdvancedBy k new x old out → (new.f ≡ f_of now) × (new.me ≡ me_of now)
advance_same k new now x old out is w made =
    let s = sight w.0 in
    subst (λ o. (new.f ≡ f_of o) × (new.me ≡ me_of o)) is (same_member k new s (after_step s (choice s) (view_to_enter s) (confirming s)) w.1.mirrors (made.0 s w.1.mirrors).2 (step_same s (choice s) (view_to_enter s) (confirming s)))

-- echo
abbrev pub EchoedBy : KeptReplica → KeptReplica → Outs → Outs → Type 0
EchoedBy k new old out = ((s : Sight) → Mirrors k s → (out ≡ old ++ echo_sent s (pending s)) × Mirrors new (after_echo s (pending s))) × (new.log.first ≡ k.log.first)

echo_same_by : (s : Sight) (o : Option Proposed) → SameIn s (after_echo s o)
echo_same_by s None = (refl, refl)
echo_same_by s (Some e) = (refl, refl)

pub echo_led : (k new : KeptReplica) (old out : Outs) → Witness k → EchoedBy k new old out → Witness new
echo_led k new old out w made = echo_stays w.0 k new (pending (sight w.0)) w.1 made.1 (made.0 (sight w.0) w.1.mirrors).1

some_of : (k : KeptReplica) (now : Option KeptReplica) → Some k ≡ now → IsSome (awaited now) → IsSome (pending_by (look_of k.current))
some_of k now is some = subst (λ o. IsSome (awaited o)) (sym is) some

pub echo_call : (k new : KeptReplica) (now : Option KeptReplica) (old out : Outs) → Some k ≡ now → EchoedBy k new old out → IsSome (awaited now) → (h : Member OrderMessage) → ReplicaStands now h → Echoes slot_machine h old out (λ t. ReplicaStandsFor new t)
echo_call k new now old out is made some h stands =
    let p : ReplicaStandsFor k h = subst (λ o. ReplicaStands o h) (sym is) stands in
    let call = echoes h k new old out p.mirrors (some_of k now is some) (made.0 (sight h) p.mirrors) in
    (call.0, record { mirrors = call.1; first = made.1 ∙ p.first })

pub echo_falls : (k new : KeptReplica) (now : Option KeptReplica) (old out : Outs) → Some k ≡ now → Witness k → EchoedBy k new old out → IsSome (awaited now) → kept_rest new < rest_left now
echo_falls k new now old out is w made some =
    let pend = some_of k now is some in
    subst (λ o. kept_rest new < rest_left o) is (echo_lowers w.0 k new old out w.1.mirrors pend (echoes w.0 k new old out w.1.mirrors pend (made.0 (sight w.0) w.1.mirrors)))

pub echo_same : (k new : KeptReplica) (now : Option KeptReplica) (old out : Outs) → Some k ≡ now → Witness k → EchoedBy k new old out → (new.f ≡ f_of now) × (new.me ≡ me_of now)
echo_same k new now old out is w made =
    let s = sight w.0 in
    subst (λ o. (new.f ≡ f_of o) × (new.me ≡ me_of o)) is (same_member k new s (after_echo s (pending s)) w.1.mirrors (made.0 s w.1.mirrors).1 (echo_same_by s (pending s)))

-- propose
abbrev pub ProposedBy : KeptReplica → KeptReplica → Proposed → Outs → Outs → Type 0
ProposedBy k new e old out = ((s : Sight) → Mirrors k s → (out ≡ old ++ propose_sent s e) × Mirrors new (said s (message.Propose (open_slot s) s.view e))) × (new.log.first ≡ k.log.first)

pub propose_led : (k new : KeptReplica) (e : Proposed) (old out : Outs) → Witness k → ProposedBy k new e old out → Witness new
propose_led k new e old out w made = (did (deed.Proposing e (propose_sent (sight w.0) e)) w.0, record { mirrors = (made.0 (sight w.0) w.1.mirrors).1; first = made.1 ∙ w.1.first })

pub propose_call : (k new : KeptReplica) (now : Option KeptReplica) (e : Proposed) (old out : Outs) → Some k ≡ now → ProposedBy k new e old out → (h : Member OrderMessage) → ReplicaStands now h → Proposes slot_machine h e old out (λ t. ReplicaStandsFor new t)
propose_call k new now e old out is made h stands =
    let p : ReplicaStandsFor k h = subst (λ o. ReplicaStands o h) (sym is) stands in
    let call = proposes h new e old out (made.0 (sight h) p.mirrors) in
    (call.0, record { mirrors = call.1; first = made.1 ∙ p.first })

pub propose_falls : (k new : KeptReplica) (now : Option KeptReplica) (e : Proposed) (old out : Outs) → Some k ≡ now → Witness k → ProposedBy k new e old out → Proposable (allowed now) e → kept_rest new < rest_left now
propose_falls k new now e old out is w made may = subst (λ o. kept_rest new < rest_left o) is (propose_lowers w.0 k new e old out w.1.mirrors (subst (λ o. Proposable (allowed o) e) (sym is) may) (proposes w.0 new e old out (made.0 (sight w.0) w.1.mirrors)))

pub propose_same : (k new : KeptReplica) (now : Option KeptReplica) (e : Proposed) (old out : Outs) → Some k ≡ now → Witness k → ProposedBy k new e old out → (new.f ≡ f_of now) × (new.me ≡ me_of now)
propose_same k new now e old out is w made =
    let s = sight w.0 in
    subst (λ o. (new.f ≡ f_of o) × (new.me ≡ me_of o)) is (same_member k new s (said s (message.Propose (open_slot s) s.view e)) w.1.mirrors (made.0 s w.1.mirrors).1 (refl, refl))

-- tick
abbrev pub TickedBy : KeptReplica → KeptReplica → Bool → Outs → Outs → Type 0
TickedBy k new due old out = ((s : Sight) → Mirrors k s → (out ≡ old ++ tick_sent s due) × Mirrors new (after_tick s due)) × (new.log.first ≡ k.log.first)

tick_same_by : (s : Sight) (due over waiting : Bool) → is_slot_over s due ≡ over → wait_grows s due ≡ waiting → SameIn s (after_tick s due)
tick_same_by s due true waiting p q = rw p (refl, refl)
tick_same_by s due false true p q = rw (p, q) (refl, refl)
tick_same_by s due false false p q = rw (p, q) (refl, refl)

pub tick_led : (k new : KeptReplica) (due : Bool) (old out : Outs) → Witness k → TickedBy k new due old out → Witness new
tick_led k new due old out w made = (did (deed.Ticked due (tick_sent (sight w.0) due)) w.0, record { mirrors = (ticks w.0 new due old out (made.0 (sight w.0) w.1.mirrors)).1; first = made.1 ∙ w.1.first })

pub tick_call : (k new : KeptReplica) (now : Option KeptReplica) (due : Bool) (old out : Outs) → Some k ≡ now → TickedBy k new due old out → (h : Member OrderMessage) → ReplicaStands now h → Ticks slot_machine h due old out (λ t. ReplicaStandsFor new t)
tick_call k new now due old out is made h stands =
    let p : ReplicaStandsFor k h = subst (λ o. ReplicaStands o h) (sym is) stands in
    let call = ticks h new due old out (made.0 (sight h) p.mirrors) in
    (call.0, record { mirrors = call.1; first = made.1 ∙ p.first })

pub tick_same : (k new : KeptReplica) (now : Option KeptReplica) (due : Bool) (old out : Outs) → Some k ≡ now → Witness k → TickedBy k new due old out → (new.f ≡ f_of now) × (new.me ≡ me_of now)
tick_same k new now due old out is w made =
    let s = sight w.0 in
    subst (λ o. (new.f ≡ f_of o) × (new.me ≡ me_of o)) is (same_member k new s (after_tick s due) w.1.mirrors (made.0 s w.1.mirrors).1 (tick_same_by s due (is_slot_over s due) (wait_grows s due) refl refl))

-- resend
resend_stands : (o : Option KeptReplica) (h : Member OrderMessage) (sent : Outs) → ReplicaStands o h → ReplicaStands o (did (deed.Resent sent) h)
resend_stands None h sent stands = stands
resend_stands (Some k) h sent stands = record { mirrors = stands.mirrors; first = stands.first }

pub resends : (k : KeptReplica) (now : Option KeptReplica) (old out : Outs) → Some k ≡ now → out ≡ old ++ resend_by (look_of k.current) → (h : Member OrderMessage) → ReplicaStands now h → Resends slot_machine h old out (λ t. ReplicaStands now t)
resends k now old out is sent h stands =
    let p : ReplicaStandsFor k h = subst (λ o. ReplicaStands o h) (sym is) stands in
    (sent ∙ ap (λ (xs : Outs). old ++ xs) (resend_is k.current (sight h) p.mirrors.shows), resend_stands now h (slot_machine.resending h) stands)

-- cut
abbrev pub CutBy : KeptReplica → KeptReplica → ℕ → Type 0
CutBy k new slot = (s : Sight) → Mirrors k s → slot ≤ open_slot s → Mirrors new s × (new.log.first ≡ max slot k.log.first)

abbrev pub MayCut : Option KeptReplica → ℕ → Type 0
MayCut now slot = (h : Member OrderMessage) → ReplicaStands now h → slot ≤ length (chosen_in h.deeds)

cut_stands : (k new : KeptReplica) (slot : ℕ) (h : Member OrderMessage) → ReplicaStandsFor k h → CutBy k new slot → slot ≤ length (chosen_in h.deeds) → ReplicaStandsFor new (did (deed.Cut slot) h)
cut_stands k new slot h p made below =
    let call = made (sight h) p.mirrors below in
    record { mirrors = call.0; first = call.1 ∙ ap (λ first. max slot first) p.first }

may_at : (k : KeptReplica) (now : Option KeptReplica) (slot : ℕ) → Some k ≡ now → MayCut now slot → (h : Member OrderMessage) → ReplicaStandsFor k h → slot ≤ length (chosen_in h.deeds)
may_at k now slot is may h p = may h (subst (λ o. ReplicaStands o h) is p)

pub cut_led : (k new : KeptReplica) (now : Option KeptReplica) (slot : ℕ) → Some k ≡ now → Witness k → CutBy k new slot → MayCut now slot → Witness new
cut_led k new now slot is w made may = (did (deed.Cut slot) w.0, cut_stands k new slot w.0 w.1 made (may_at k now slot is may w.0 w.1))

pub cut_call : (k new : KeptReplica) (now : Option KeptReplica) (slot : ℕ) → Some k ≡ now → CutBy k new slot → MayCut now slot → (h : Member OrderMessage) → ReplicaStands now h → Cuts h slot (λ t. ReplicaStandsFor new t)
cut_call k new now slot is made may h stands = cut_stands k new slot h (subst (λ o. ReplicaStands o h) (sym is) stands) made (may h stands)
