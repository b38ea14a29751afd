-- What the calls of a replica come to.
use Rattle.std.proofs.Common.{◌≡◌, ℕ, ◌+◌, ◌*◌, ◌%◌, ◌^◌, ◌<◌, ◌≤◌, ◌==◌, min, nat_lt, bytes_eq, Bool, true, false, ◌&&◌, ◌||◌, if◌then◌else◌, List, [], ◌∷◌, ◌++◌, length, append-nil, Option, Some, None, is_some, refl, sym, ap, ap₂, ◌∙◌, subst, lt-ltb, arith}
use Rattle.std.proofs.Math.Nat.{pow-le-pow_right, min-le_right}
use Rattle.std.specs.Cmp.Lexicographic.{slice_cmp}
use Rattle.std.specs.Ordering.{nat_cmp, is_lt}
use Rattle.cs_order.specs.Counts.{when}
use Rattle.cs_base.specs.Options.{or_else}
use Rattle.cs_order.specs.Limits.{last_slot, view_bound}
use Rattle.cs_order.specs.Calls.{Proposable}
use Rattle.cs_order.specs.declared.proposed.Proposed.{Proposed}
use Rattle.cs_order.specs.declared.answers.Outgoing.{Outgoing}
use Rattle.cs_order.specs.declared.answers.Step.{Step}
use Rattle.cs_order.specs.declared.answers.Step.TheVariants as step
use Rattle.cs_order.specs.declared.answers.May.{May}
use Rattle.cs_order_rules.specs.declared.message.Change.{Change}
use Rattle.cs_order_rules.specs.declared.message.OrderMessage.{OrderMessage}
use Rattle.cs_order_rules.specs.declared.message.OrderMessage.TheVariants as message
use Rattle.cs_order_rules.specs.Slot.{chosen, to_confirm}
use Rattle.cs_order_rules.specs.Facts.{Facts, Sight, open_slot, echo_in, first_of}
use Rattle.cs_order_rules.specs.Rules.{choice, view_to_enter, confirming, step_by, sent_by_rules as advance_by, step_of, advance_sent, pending, echo_sent, propose_sent, change_to, to_all, is_slot_over, wait_grows, tick_sent, echoed_in, with_line, insert_line}
use Rattle.cs_order_law.specs.laws.SlotFacts.{pending_is}
use Rattle.cs_order_law.specs.laws.RuleFacts as rule
use Rattle.cs_order_law.specs.laws.Rest.{none_proposed}
use Rattle.cs_order_open.specs.Shows.{KeptOpenSlot, ShowsSlot, TakesFirst}
use Rattle.cs_order_open.specs.Look.{look_of, entering_by, change_by, pending_by, may_by}
use Rattle.cs_order_open.specs.laws.Looking as looking
use Rattle.cs_log.specs.Replicas.{KeptReplica, next_slot, Mirrors, IsSeen, longest_wait, said, sight_with_view, chose, after_step, after_echo, after_tick}
use Rattle.cs_log.proofs.Mirroring.{next_is, with_round, says_proposal, says_echo, says_confirm, enters, waits_more}

abbrev pub Outs : Type 0
Outs = List (Outgoing OrderMessage)

-- how long a view waits is a small number
pub limit_fits : (k : ℕ) → k ≤ 10 → 8 * 2 ^ k % 65536 ≡ 8 * 2 ^ k
limit_fits k few = (let small : 2 ^ k ≤ 2 ^ 10 = pow-le-pow_right (omega arith) few in omega arith)

-- propose
pub proposed : (k : KeptReplica) (s : Sight) (current : KeptOpenSlot) (e : Proposed) (fresh : Bool) (n : ℕ) (old now : Outs) → Mirrors k s → Proposable (may_by (look_of k.current)) e → TakesFirst fresh current s (open_slot s) s.view k.me (message.Propose (open_slot s) k.view e) → n ≡ next_slot k.log → now ≡ old ++ to_all (message.Propose n k.view e) → (now ≡ old ++ propose_sent s e) × Mirrors (with_round k current) (said s (message.Propose (open_slot s) s.view e))
proposed k s current e fresh n old now p may takes slot out = (
  out ∙ ap₂ (λ a b. old ++ to_all (message.Propose a b e)) (slot ∙ next_is k s p) p.view,
  says_proposal k s current e fresh p (none_proposed s e (subst (λ (m : May). Proposable m e) (looking.may_is k.current s p.shows) may)) takes,
)

-- echo
pub echo_none : (k : KeptReplica) (s : Sight) (out : Outs) → Mirrors k s → None ≡ pending_by (look_of k.current) → (out ≡ out ++ echo_sent s (pending s)) × Mirrors k (after_echo s (pending s))
echo_none k s out p none = echo_by (pending s) (none ∙ looking.pending_is k.current s p.shows)
  where
    echo_by : (o : Option Proposed) → None ≡ o → (out ≡ out ++ echo_sent s o) × Mirrors k (after_echo s o)
    echo_by None h = (sym (append-nil out), p)
    echo_by (Some e) h = cc

pub echoed : (k : KeptReplica) (s : Sight) (current : KeptOpenSlot) (e : Proposed) (fresh : Bool) (n : ℕ) (old now : Outs) → Mirrors k s → Some e ≡ pending_by (look_of k.current) → TakesFirst fresh current s (open_slot s) s.view k.me (message.Echo (open_slot s) k.view e.digest) → n ≡ next_slot k.log → now ≡ old ++ to_all (message.Echo n k.view e.digest) → (now ≡ old ++ echo_sent s (pending s)) × Mirrors (with_round k current) (after_echo s (pending s))
echoed k s current e fresh n old now p some takes slot out =
    let is : Some e ≡ pending s = some ∙ looking.pending_is k.current s p.shows in
    let sent = out ∙ ap₂ (λ a b. old ++ to_all (message.Echo a b e.digest)) (slot ∙ next_is k s p) p.view in
    subst (λ (o : Option Proposed). (now ≡ old ++ echo_sent s o) × Mirrors (with_round k current) (after_echo s o)) is (sent, says_echo k s current e.digest fresh p (pending_is s e (sym is)).none_yet takes)

-- confirm
pub confirmed : (k : KeptReplica) (s : Sight) (current : KeptOpenSlot) (d : List ℕ) (fresh : Bool) (n : ℕ) (old now : Outs) → Mirrors k s → to_confirm (look_of k.current).seen ≡ Some d → TakesFirst fresh current s (open_slot s) s.view k.me (message.Confirm (open_slot s) k.view d) → n ≡ next_slot k.log → now ≡ old ++ to_all (message.Confirm n k.view d) → (now ≡ old ++ to_all (message.Confirm (open_slot s) s.view d)) × Mirrors (with_round k current) (said s (message.Confirm (open_slot s) s.view d))
confirmed k s current d fresh n old now p due takes slot out = (
  out ∙ ap₂ (λ a b. old ++ to_all (message.Confirm a b d)) (slot ∙ next_is k s p) p.view,
  says_confirm k s current d fresh p (rule.to_confirm_is s d (sym (looking.confirming_is k.current s p.shows) ∙ due)).1 takes,
)

-- enter
pub view_entered : (k : KeptReplica) (s : Sight) (told current : KeptOpenSlot) (w : ℕ) (change sent : Change) (fresh : Bool) (n : ℕ) (old now : Outs) → Mirrors k s → k.view < w → w < view_bound → change ≡ change_by (look_of k.current) → sent ≡ change_by (look_of k.current) → TakesFirst fresh told s (open_slot s) s.view k.me (message.Change (open_slot s) w change) → ((t : Sight) (i v : ℕ) → ShowsSlot told t i v → ShowsSlot current t i w) → n ≡ next_slot k.log → now ≡ old ++ to_all (message.Change n w sent) → (now ≡ old ++ change_to s w) × Mirrors (record { f = k.f; me = k.me; log = k.log; view = w; wait = 0; current = current; later = k.later }) (sight_with_view s w)
view_entered k s told current w change sent fresh n old now p higher small is also takes enter slot out =
    let tells = looking.change_is k.current s p.shows in (
      out ∙ ap₂ (λ a (c : Change). old ++ to_all (message.Change a w c)) (slot ∙ next_is k s p) (also ∙ tells),
      enters k s told current w change fresh p (rw (← p.view) higher) small takes (is ∙ tells) enter,
    )

-- advance
pub entering_later : (k : KeptReplica) (w : ℕ) → IsSeen k → Some w ≡ entering_by (look_of k.current) → (k.view < w) × (w < view_bound)
entering_later k w seen is =
    let s = seen.0 in
    let p = seen.1 in
    let r = rule.entering_is s w (sym (is ∙ looking.entering_is k.current s p.shows)) in
    ((let e = p.view in let above = r.0 in omega arith), (let e = p.views in let below = r.1 in omega arith))

pub room_to_choose : (k : KeptReplica) (e : Proposed) → IsSeen k → Some e ≡ chosen (look_of k.current).seen → next_slot k.log < last_slot
room_to_choose k e seen is =
    let s = seen.0 in
    let p = seen.1 in
    rw (next_is k s p) (rule.choice_is s e (sym (is ∙ looking.choice_is k.current s p.shows))).0

abbrev pub Advanced : Sight → KeptReplica → Step → Outs → Outs → Option Proposed → Option ℕ → Option (List ℕ) → Type 0
Advanced s new x old now c w d = (x ≡ step_by c w d) × (now ≡ old ++ advance_by s c w d) × Mirrors new (after_step s c w d)

advanced_by : (s : Sight) (new : KeptReplica) (x : Step) (old now : Outs) (c : Option Proposed) (w : Option ℕ) (d : Option (List ℕ)) → c ≡ choice s → w ≡ view_to_enter s → d ≡ confirming s → Advanced s new x old now c w d → Advanced s new x old now (choice s) (view_to_enter s) (confirming s)
advanced_by s new x old now c w d p q r made =
    subst (λ (a : Option Proposed). Advanced s new x old now a (view_to_enter s) (confirming s)) p
    (subst (λ (b : Option ℕ). Advanced s new x old now c b (confirming s)) q
    (subst (λ (e : Option (List ℕ)). Advanced s new x old now c w e) r made))

pub chose_by : (k new : KeptReplica) (s : Sight) (e : Proposed) (out : Outs) → Mirrors k s → Some e ≡ chosen (look_of k.current).seen → Mirrors new (chose s e) → (step.Chosen e ≡ step_of s) × (out ≡ out ++ advance_sent s) × Mirrors new (after_step s (choice s) (view_to_enter s) (confirming s))
chose_by k new s e out p is made = advanced_by s new (step.Chosen e) out out (Some e) (view_to_enter s) (confirming s) (is ∙ looking.choice_is k.current s p.shows) refl refl (refl, sym (append-nil out), made)

pub entered_by : (k new : KeptReplica) (s : Sight) (w : ℕ) (old now : Outs) → Mirrors k s → None ≡ chosen (look_of k.current).seen → Some w ≡ entering_by (look_of k.current) → (now ≡ old ++ change_to s w) × Mirrors new (sight_with_view s w) → (step.Moved ≡ step_of s) × (now ≡ old ++ advance_sent s) × Mirrors new (after_step s (choice s) (view_to_enter s) (confirming s))
entered_by k new s w old now p none is made = advanced_by s new step.Moved old now None (Some w) (confirming s) (none ∙ looking.choice_is k.current s p.shows) (is ∙ looking.entering_is k.current s p.shows) refl (refl, made.0, made.1)

pub confirmed_by : (k new : KeptReplica) (s : Sight) (d : List ℕ) (old now : Outs) → Mirrors k s → None ≡ chosen (look_of k.current).seen → None ≡ entering_by (look_of k.current) → Some d ≡ to_confirm (look_of k.current).seen → (now ≡ old ++ to_all (message.Confirm (open_slot s) s.view d)) × Mirrors new (said s (message.Confirm (open_slot s) s.view d)) → (step.Moved ≡ step_of s) × (now ≡ old ++ advance_sent s) × Mirrors new (after_step s (choice s) (view_to_enter s) (confirming s))
confirmed_by k new s d old now p none stays is made = advanced_by s new step.Moved old now None None (Some d) (none ∙ looking.choice_is k.current s p.shows) (stays ∙ looking.entering_is k.current s p.shows) (is ∙ looking.confirming_is k.current s p.shows) (refl, made.0, made.1)

pub quiet_by : (k : KeptReplica) (s : Sight) (out : Outs) → Mirrors k s → None ≡ chosen (look_of k.current).seen → None ≡ entering_by (look_of k.current) → None ≡ to_confirm (look_of k.current).seen → (step.Quiet ≡ step_of s) × (out ≡ out ++ advance_sent s) × Mirrors k (after_step s (choice s) (view_to_enter s) (confirming s))
quiet_by k s out p none stays done = advanced_by s k step.Quiet out out None None None (none ∙ looking.choice_is k.current s p.shows) (stays ∙ looking.entering_is k.current s p.shows) (done ∙ looking.confirming_is k.current s p.shows) (refl, sym (append-nil out), p)

-- A member has echoed where a digest is listed.
some_first : (line : List ℕ × ℕ) (lines : List (List ℕ × ℕ)) → nat_lt 0 (length (line ∷ lines)) ≡ true
some_first line lines = lt-ltb 0 (length (line ∷ lines)) (omega arith)

insert_some : (line : List ℕ × ℕ) (lines : List (List ℕ × ℕ)) → nat_lt 0 (length (insert_line line lines)) ≡ true
insert_some line [] = some_first line []
insert_some line (other ∷ lines) = either (bytes_eq line.0 other.0) (is_lt (slice_cmp nat_cmp line.0 other.0)) (nat_lt other.1 line.1)
  where
    either : (same before late : Bool) → nat_lt 0 (length (if same then (if late then line else other) ∷ lines else (if before then line ∷ other ∷ lines else other ∷ insert_line line lines))) ≡ true
    either true before late = some_first (if late then line else other) lines
    either false true late = some_first line (other ∷ lines)
    either false false late = some_first other (insert_line line lines)

listed_by : (o : Option (List ℕ × ℕ)) (lines : List (List ℕ × ℕ)) (rest : Option (List ℕ × ℕ)) → nat_lt 0 (length lines) ≡ is_some rest → nat_lt 0 (length (with_line o lines)) ≡ is_some (or_else o rest)
listed_by None lines rest h = h
listed_by (Some line) lines rest h = insert_some line lines

listed : (me n : ℕ) (facts : Facts) → nat_lt 0 (length (echoed_in me n facts)) ≡ is_some (first_of (echo_in n) facts me)
listed me n [] = refl
listed me n (fact ∷ facts) = listed_by (when (fact.0 == me) (echo_in n fact.1)) (echoed_in me n facts) (first_of (echo_in n) facts me) (listed me n facts)

-- tick
pub waiting_is : (k : KeptReplica) (s : Sight) (due : Bool) → Mirrors k s → (due || nat_lt 0 (length k.current.echoed)) ≡ wait_grows s due
waiting_is k s due p = ap (λ (b : Bool). due || b) (ap (λ (lines : List (List ℕ × ℕ)). nat_lt 0 (length lines)) p.shows.echoed ∙ listed s.me (open_slot s) s.taken)

abbrev pub Ticked : Sight → KeptReplica → Bool → Outs → Outs → Type 0
Ticked s new due old now = (now ≡ old ++ tick_sent s due) × Mirrors new (after_tick s due)

-- nothing to wait for
pub tick_idle : (k : KeptReplica) (s : Sight) (due : Bool) (out : Outs) → Mirrors k s → (due || nat_lt 0 (length k.current.echoed)) ≡ false → Ticked s k due out out
tick_idle k s due out p idle =
    let not_waiting : wait_grows s due ≡ false = sym (waiting_is k s due p) ∙ idle in
    let not_over : is_slot_over s due ≡ false = ap (λ (b : Bool). b && ((s.wait + 1 == 8 * 2 ^ min s.view 10) && nat_lt (s.view + 1) view_bound)) not_waiting in
    rw (not_over, not_waiting) (sym (append-nil out), p)

-- a longest wait and more is no limit
same_limit : (a b : ℕ) → a ≡ min b longest_wait → (c : ℕ) → c ≤ longest_wait → (a + 1 == c) ≡ (b + 1 == c)
same_limit a b is c small = grind arith

pub over_is : (k : KeptReplica) (s : Sight) → Mirrors k s → ((k.wait + 1 == 8 * 2 ^ min k.view 10) && nat_lt (k.view + 1) view_bound) ≡ ((s.wait + 1 == 8 * 2 ^ min s.view 10) && nat_lt (s.view + 1) view_bound)
over_is k s p =
    let small : 2 ^ min s.view 10 ≤ 2 ^ 10 = pow-le-pow_right (omega arith) (min-le_right s.view 10) in
    ap (λ v. (k.wait + 1 == 8 * 2 ^ min v 10) && nat_lt (v + 1) view_bound) p.view
    ∙ ap (λ (b : Bool). b && nat_lt (s.view + 1) view_bound) (same_limit k.wait s.wait p.wait (8 * 2 ^ min s.view 10) (omega arith))

pub tick_over : (k new : KeptReplica) (s : Sight) (due : Bool) (old now : Outs) → Mirrors k s → (due || nat_lt 0 (length k.current.echoed)) ≡ true → ((k.wait + 1 == 8 * 2 ^ min k.view 10) && nat_lt (k.view + 1) view_bound) ≡ true → (now ≡ old ++ change_to s (k.view + 1)) × Mirrors new (sight_with_view s (k.view + 1)) → Ticked s new due old now
tick_over k new s due old now p waiting over made =
    let is : is_slot_over s due ≡ true = ap₂ (λ (a : Bool) (b : Bool). a && b) (sym (waiting_is k s due p) ∙ waiting) (sym (over_is k s p) ∙ over) in
    rw is (subst (λ v. (now ≡ old ++ change_to s (v + 1)) × Mirrors new (sight_with_view s (v + 1))) p.view made)

pub tick_counts : (k : KeptReplica) (s : Sight) (due : Bool) (out : Outs) (wait : ℕ) → Mirrors k s → (due || nat_lt 0 (length k.current.echoed)) ≡ true → ((k.wait + 1 == 8 * 2 ^ min k.view 10) && nat_lt (k.view + 1) view_bound) ≡ false → wait ≡ min (k.wait + 1) longest_wait → Ticked s (record { f = k.f; me = k.me; log = k.log; view = k.view; wait = wait; current = k.current; later = k.later }) due out out
tick_counts k s due out wait p waiting over more =
    let is_waiting : wait_grows s due ≡ true = sym (waiting_is k s due p) ∙ waiting in
    let not_over : is_slot_over s due ≡ false = ap₂ (λ (a : Bool) (b : Bool). a && b) is_waiting (sym (over_is k s p) ∙ over) in
    let counted : wait ≡ min (s.wait + 1) longest_wait = (let e = p.wait in let m = more in omega arith) in
    rw (not_over, is_waiting) (sym (append-nil out), waits_more k s wait p counted)
