-- Each call of what is kept is the rules' function of the member's deeds.
use Rattle.std.proofs.Common.{◌≡◌, ℕ, ◌<◌, Bool, true, false, List, ◌++◌, Option, Some, None, IsSome, refl, sym, ap, ap₂, ◌∙◌, subst, arith}
use Rattle.cs_order.specs.Limits.{rest_at}
use Rattle.cs_order.specs.Deeds.{Deed, Member, did, sent_by, entry_from, entry_of_slot}
use Rattle.cs_order.specs.Deeds as deed
use Rattle.cs_order.specs.Calls.{Proposable, TakesIn, Advances, Echoes, Proposes, Ticks, Replies, RepliesWith, Lowers, taken_in, advanced, sent_at}
use Rattle.cs_order.specs.declared.proposed.Proposed.{Proposed}
use Rattle.cs_order.specs.declared.answers.Outgoing.{Outgoing}
use Rattle.cs_order.specs.declared.answers.Took.{Took}
use Rattle.cs_order.specs.declared.answers.Took.TheVariants.{Taken, Old, Far, Leader, Repeat}
use Rattle.cs_order.specs.declared.answers.Step.{Step}
use Rattle.cs_order.specs.declared.answers.Step.TheVariants as step
use Rattle.cs_order.specs.declared.answers.May.{May}
use Rattle.cs_order_rules.specs.declared.message.OrderMessage.{OrderMessage}
use Rattle.cs_order_rules.specs.declared.message.OrderMessage.TheVariants as message
use Rattle.cs_order_rules.specs.Facts.{open_slot}
use Rattle.cs_order_rules.specs.Rules.{verdict, choice, view_to_enter, confirming, step_by, sent_by_rules as advance_by, step_of, advance_sent, pending, echo_sent, propose_sent, tick_sent, is_slot_over, wait_grows, reply_with}
use Rattle.cs_order_rules.specs.SlotMachine.{slot_machine, sight, slot_rest}
use Rattle.cs_order_law.specs.laws.Rest.{rest_falls}
use Rattle.cs_order_open.specs.Look.{look_of, pending_by, may_by, left_by}
use Rattle.cs_order_open.specs.laws.Looking.{left_is, pending_is, may_is}
use Rattle.cs_log.specs.Stands.{ReplicaStandsFor, ReplicaStands, allowed, awaited}
use Rattle.cs_log.specs.Replicas.{KeptReplica, Mirrors, after_taking, after_step, after_echo, after_tick, said, kept_rest, RepliedWith}
use Rattle.cs_log.proofs.Mirroring.{next_is}

abbrev pub Outs : Type 0
Outs = List (Outgoing OrderMessage)

-- What is left to do is what the rules leave.
pub rest_is : (k : KeptReplica) (h : Member OrderMessage) → Mirrors k (sight h) → kept_rest k ≡ slot_rest h
rest_is k h p = ap (λ n. rest_at n k.view (left_by (look_of k.current))) (next_is k (sight h) p) ∙ ap₂ (λ v left. rest_at (open_slot (sight h)) v left) p.view (left_is k.current (sight h) p.shows)

lower : (k new : KeptReplica) (h : Member OrderMessage) (act : Deed OrderMessage) → Mirrors k (sight h) → Mirrors new (sight (did act h)) → slot_rest (did act h) < slot_rest h → kept_rest new < kept_rest k
lower k new h act p q less = rw (rest_is k h p, rest_is new (did act h) q) less

-- take
taken_by : (h : Member OrderMessage) (from : ℕ) (m : OrderMessage) (new : KeptReplica) (took : Took) → Mirrors new (after_taking took (sight h) from m) → Mirrors new (sight (taken_in took from m h))
taken_by h from m new Taken p = p
taken_by h from m new Old p = p
taken_by h from m new Far p = p
taken_by h from m new Leader p = p
taken_by h from m new Repeat p = p

pub takes : (h : Member OrderMessage) (from : ℕ) (m : OrderMessage) (new : KeptReplica) (took : Took) → (took ≡ verdict (sight h) from m) × Mirrors new (after_taking (verdict (sight h) from m) (sight h) from m) → TakesIn slot_machine h from m took (λ t. Mirrors new (sight t))
takes h from m new took p = (p.0, taken_by h from m new (verdict (sight h) from m) p.1)

-- advance
abbrev Made : Member OrderMessage → KeptReplica → Step → Outs → Outs → Option Proposed → Option ℕ → Option (List ℕ) → Type 0
Made h new x old now c w d = (x ≡ step_by c w d) × (now ≡ old ++ advance_by (sight h) c w d) × Mirrors new (after_step (sight h) c w d)

abbrev Led : Member OrderMessage → KeptReplica → Step → Outs → Outs → Option Proposed → Option ℕ → Option (List ℕ) → Type 0
Led h new x old now c w d = (x ≡ step_by c w d) × (now ≡ old ++ sent_at (step_by c w d) (advance_by (sight h) c w d)) × Mirrors new (sight (advanced (step_by c w d) (advance_by (sight h) c w d) h))

led_by : (h : Member OrderMessage) (new : KeptReplica) (x : Step) (old now : Outs) (c : Option Proposed) (w : Option ℕ) (d : Option (List ℕ)) → Made h new x old now c w d → Led h new x old now c w d
led_by h new x old now (Some e) w d p = p
led_by h new x old now None (Some v) d p = p
led_by h new x old now None None (Some digest) p = p
led_by h new x old now None None None p = p

pub advances : (h : Member OrderMessage) (new : KeptReplica) (x : Step) (old now : Outs) → (x ≡ step_of (sight h)) × (now ≡ old ++ advance_sent (sight h)) × Mirrors new (after_step (sight h) (choice (sight h)) (view_to_enter (sight h)) (confirming (sight h))) → Advances slot_machine h x old now (λ t. Mirrors new (sight t))
advances h new x old now p = led_by h new x old now (choice (sight h)) (view_to_enter (sight h)) (confirming (sight h)) p

lowers_by : (k new : KeptReplica) (h : Member OrderMessage) (x y : Step) → slot_machine.step h ≡ y → x ≡ y → Mirrors k (sight h) → Mirrors new (sight (advanced y (slot_machine.advancing h) h)) → Lowers (kept_rest k) (kept_rest new) x
lowers_by k new h x (step.Chosen e) is same p q = rw same (lower k new h (deed.Advanced (step.Chosen e) (slot_machine.advancing h)) p q (rest_falls h (deed.Advanced (step.Chosen e) (slot_machine.advancing h)) (is, (λ quiet. cc), refl) tt))
lowers_by k new h x step.Moved is same p q = rw same (lower k new h (deed.Advanced step.Moved (slot_machine.advancing h)) p q (rest_falls h (deed.Advanced step.Moved (slot_machine.advancing h)) (is, (λ quiet. cc), refl) tt))
lowers_by k new h x step.Quiet is same p q = rw same (let e = rest_is k h p ∙ sym (rest_is new h q) in omega arith)

pub lowers : (k new : KeptReplica) (h : Member OrderMessage) (x : Step) (old now : Outs) → Mirrors k (sight h) → Advances slot_machine h x old now (λ t. Mirrors new (sight t)) → Lowers (kept_rest k) (kept_rest new) x
lowers k new h x old now p q = lowers_by k new h x (slot_machine.step h) refl q.0 p q.2

-- echo
echoed_by : (h : Member OrderMessage) (new : KeptReplica) (old now : Outs) (o : Option Proposed) → IsSome o → (now ≡ old ++ echo_sent (sight h) o) × Mirrors new (after_echo (sight h) o) → (now ≡ old ++ echo_sent (sight h) o) × Mirrors new (sight (did (deed.Echoed (echo_sent (sight h) o)) h))
echoed_by h new old now None some p = absurd (let k = some in cc)
echoed_by h new old now (Some e) some p = p

pub echoes : (h : Member OrderMessage) (k new : KeptReplica) (old now : Outs) → Mirrors k (sight h) → IsSome (pending_by (look_of k.current)) → (now ≡ old ++ echo_sent (sight h) (pending (sight h))) × Mirrors new (after_echo (sight h) (pending (sight h))) → Echoes slot_machine h old now (λ t. Mirrors new (sight t))
echoes h k new old now p some made = echoed_by h new old now (pending (sight h)) (rw (← pending_is k.current (sight h) p.shows) some) made

pub echo_lowers : (h : Member OrderMessage) (k new : KeptReplica) (old now : Outs) → Mirrors k (sight h) → IsSome (pending_by (look_of k.current)) → Echoes slot_machine h old now (λ t. Mirrors new (sight t)) → kept_rest new < kept_rest k
echo_lowers h k new old now p some made = lower k new h (deed.Echoed (slot_machine.echoing h)) p made.1 (rest_falls h (deed.Echoed (slot_machine.echoing h)) (rw (← pending_is k.current (sight h) p.shows) some, refl) tt)

-- where nothing is pending, an echo changes nothing
pub echo_stays : (h : Member OrderMessage) (k new : KeptReplica) (o : Option Proposed) → ReplicaStandsFor k h → new.log.first ≡ k.log.first → Mirrors new (after_echo (sight h) o) → (t : Member OrderMessage) × ReplicaStandsFor new t
echo_stays h k new None stands uncut p = (h, record { mirrors = p; first = uncut ∙ stands.first })
echo_stays h k new (Some e) stands uncut p = (did (deed.Echoed (echo_sent (sight h) (Some e))) h, record { mirrors = p; first = uncut ∙ stands.first })

-- propose
pub proposes : (h : Member OrderMessage) (new : KeptReplica) (e : Proposed) (old now : Outs) → (now ≡ old ++ propose_sent (sight h) e) × Mirrors new (said (sight h) (message.Propose (open_slot (sight h)) (sight h).view e)) → Proposes slot_machine h e old now (λ t. Mirrors new (sight t))
proposes h new e old now made = made

pub propose_lowers : (h : Member OrderMessage) (k new : KeptReplica) (e : Proposed) (old now : Outs) → Mirrors k (sight h) → Proposable (may_by (look_of k.current)) e → Proposes slot_machine h e old now (λ t. Mirrors new (sight t)) → kept_rest new < kept_rest k
propose_lowers h k new e old now p may made = lower k new h (deed.Proposing e (propose_sent (sight h) e)) p made.1 (rest_falls h (deed.Proposing e (propose_sent (sight h) e)) (subst (λ (m : May). Proposable m e) (may_is k.current (sight h) p.shows) may, refl) tt)

-- tick
ticked_by : (h : Member OrderMessage) (new : KeptReplica) (due over waiting : Bool) → is_slot_over (sight h) due ≡ over → wait_grows (sight h) due ≡ waiting → Mirrors new (after_tick (sight h) due) → Mirrors new (sight (did (deed.Ticked due (tick_sent (sight h) due)) h))
ticked_by h new due true waiting is is_waiting p = rw is (rw is at p)
ticked_by h new due false true is is_waiting p = rw (is, is_waiting) (rw (is, is_waiting) at p)
ticked_by h new due false false is is_waiting p = rw (is, is_waiting) (rw (is, is_waiting) at p)

pub ticks : (h : Member OrderMessage) (new : KeptReplica) (due : Bool) (old now : Outs) → (now ≡ old ++ tick_sent (sight h) due) × Mirrors new (after_tick (sight h) due) → Ticks slot_machine h due old now (λ t. Mirrors new (sight t))
ticks h new due old now made = (made.0, ticked_by h new due (is_slot_over (sight h) due) (wait_grows (sight h) due) refl refl made.1)

-- resend and reply
pub replies_by : (h : Member OrderMessage) (k : KeptReplica) (slot to : ℕ) (answer : Bool) (old now : Outs) (o : Option (Outgoing OrderMessage)) → ReplicaStandsFor k h → RepliedWith o answer old now → RepliesWith o h slot to answer old now (λ t. ReplicaStandsFor k t)
replies_by h k slot to answer old now None p made = made
replies_by h k slot to answer old now (Some out) p made = (made.0, made.1, record { mirrors = p.mirrors; first = p.first })

pub replies : (h : Member OrderMessage) (k : KeptReplica) (slot to : ℕ) (answer : Bool) (old now : Outs) → ReplicaStandsFor k h → RepliedWith (reply_with slot to (entry_from k.log.first (sight h).log slot)) answer old now → Replies slot_machine h slot to answer old now (λ t. ReplicaStandsFor k t)
replies h k slot to answer old now p made = replies_by h k slot to answer old now (reply_with slot to (entry_of_slot h.deeds slot)) p (subst (λ first. RepliedWith (reply_with slot to (entry_from first (sight h).log slot)) answer old now) p.first made)

pub allows_rule : (o : Option KeptReplica) (h : Member OrderMessage) → ReplicaStands o h → allowed o ≡ slot_machine.may_propose h
allows_rule None h stands = absurd stands
allows_rule (Some k) h stands = may_is k.current (sight h) stands.mirrors.shows

pub awaits_rule : (o : Option KeptReplica) (h : Member OrderMessage) → ReplicaStands o h → awaited o ≡ slot_machine.pending h
awaits_rule None h stands = absurd stands
awaits_rule (Some k) h stands = pending_is k.current (sight h) stands.mirrors.shows
