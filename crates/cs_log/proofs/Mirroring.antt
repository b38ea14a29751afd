-- What is kept mirrors what the member sees, after each call.
use Rattle.std.proofs.Common.{◌≡◌, ◌≢◌, ℕ, ◌+◌, ◌*◌, ◌<◌, ◌≤◌, ◌==◌, min, Bool, true, false, not, List, [], ◌∷◌, ◌++◌, length, length-append, length-drop, Option, Some, None, is_some, slice_get, slice_set, inl, inr, refl, sym, ap, ◌∙◌, subst, ne_eqb, arith}
use Rattle.cs_order.specs.Limits.{last_slot, view_bound}
use Rattle.cs_base.specs.Lists.{IsIn}
use Rattle.cs_order.specs.Kept.{KeepsFrom}
use Rattle.cs_order.specs.declared.proposed.Proposed.{Proposed}
use Rattle.cs_order_rules.specs.declared.message.Change.{Change}
use Rattle.cs_order_rules.specs.declared.message.OrderMessage.{OrderMessage}
use Rattle.cs_order_rules.specs.declared.message.OrderMessage.TheVariants as message
use Rattle.cs_order_rules.specs.Facts.{Sight, open_slot, slot_of_message, view_of_message, is_like, took, first_of, proposal_said, echo_said, confirm_said, change_said}
use Rattle.cs_order_rules.specs.Slot.{Seen}
use Rattle.cs_order_rules.specs.Rules.{own, change_told}
use Rattle.cs_order_law.specs.laws.SlotFacts.{first_of_is, change_said_is}
use Rattle.cs_order_law.specs.Terms.{IsWithinReach}
use Rattle.cs_order_open.specs.Shows.{KeptOpenSlot, ShowsSlot, TakesFirst, IsSlotOf, with_fact, led}
use Rattle.cs_order_open.specs.laws.Seeing.{took_is_found, like_proposal, like_echo, like_confirm, like_change}
use Rattle.cs_order_open.specs.laws.OneSlot.{shows_more}
use Rattle.cs_log.specs.Replicas.{KeptEntries, KeptReplica, next_slot, Mirrors, IsSeen, longest_wait, at_first, said, sight_with_view, chose, waited, if_fresh}
use Rattle.cs_log.specs.Later.{ShowLater, MayTake}
use Rattle.cs_log.proofs.LaterSlots.{moved, moved_later, more_later, slot_at, takes_at}

-- the log is kept up to the open slot
pub next_is : (k : KeptReplica) (s : Sight) → Mirrors k s → next_slot k.log ≡ open_slot s
next_is k s p = (let within = p.log.within in let n = ap length p.log.entries_are ∙ length-drop k.log.first s.log in omega arith)

-- whose open slot it is
pub is_of : (k : KeptOpenSlot) (s : Sight) (n v : ℕ) → ShowsSlot k s n v → IsSlotOf s.f n s.me v k
is_of k s n v p =
    record {
      f_is = ap (λ (x : Seen). x.f) p.seen;
      n_is = ap (λ (x : Seen). x.n) p.seen;
      me_is = ap (λ (x : Seen). x.me) p.seen;
      view_is = ap (λ (x : Seen). x.view) p.seen;
      changes_f_is = p.same_f;
    }

-- What is known of a replica that is seen.
pub replica_of : (k : KeptReplica) → (p : IsSeen k) → IsSlotOf k.f (next_slot k.log) k.me k.view k.current
replica_of k p = let m = p.1 in rw (m.f, next_is k p.0 m, m.me, m.view) (is_of k.current p.0 (open_slot p.0) p.0.view m.shows)

pub replica_few : (k : KeptReplica) → IsSeen k → k.f ≤ 5
replica_few k p = rw p.1.f p.1.few

pub replica_member : (k : KeptReplica) → IsSeen k → k.me ≤ 3 * k.f
replica_member k p = rw (p.1.me, p.1.f) p.1.member

pub replica_short : (k : KeptReplica) → IsSeen k → next_slot k.log ≤ last_slot
replica_short k p = rw (next_is k p.0 p.1) p.1.short

pub replica_small : (k : KeptReplica) → IsSeen k → k.view < view_bound
replica_small k p = rw p.1.view p.1.small

-- A message of another member is none of one's own.
within_other : (s : Sight) (from : ℕ) (m : OrderMessage) → from ≢ s.me → ((j : OrderMessage) → IsIn (s.me, j) s.taken → IsWithinReach s j) → (j : OrderMessage) → IsIn (s.me, j) ((from, m) ∷ s.taken) → IsWithinReach s j
within_other s from m other old j (inl e) = absurd (other (ap (λ (x : ℕ × OrderMessage). x.0) (sym e)))
within_other s from m other old j (inr h) = old j h

within_own : (s : Sight) (m : OrderMessage) → slot_of_message m ≡ open_slot s → view_of_message m ≤ s.view → ((j : OrderMessage) → IsIn (s.me, j) s.taken → IsWithinReach s j) → (j : OrderMessage) → IsIn (s.me, j) ((s.me, m) ∷ s.taken) → IsWithinReach s j
within_own s m slot view old j (inl e) = subst (λ x. IsWithinReach s x) (ap (λ (x : ℕ × OrderMessage). x.1) (sym e)) (inr (slot, view))
within_own s m slot view old j (inr h) = old j h

abbrev pub with_round : KeptReplica → KeptOpenSlot → KeptReplica
with_round k current = record { f = k.f; me = k.me; log = k.log; view = k.view; wait = k.wait; current = current; later = k.later }

abbrev pub with_later : KeptReplica → List KeptOpenSlot → KeptReplica
with_later k later = record { f = k.f; me = k.me; log = k.log; view = k.view; wait = k.wait; current = k.current; later = later }

-- a message of the open slot
here : (k : KeptReplica) (s : Sight) (current : KeptOpenSlot) (from : ℕ) (m : OrderMessage) → Mirrors k s → slot_of_message m ≡ open_slot s → ShowsSlot current (with_fact s from m) (open_slot s) s.view → ((j : OrderMessage) → IsIn (s.me, j) ((from, m) ∷ s.taken) → IsWithinReach s j) → Mirrors (with_round k current) (with_fact s from m)
here k s current from m p slot shows within =
    record {
      f = p.f;
      me = p.me;
      log = p.log;
      view = p.view;
      wait = p.wait;
      views = p.views;
      few = p.few;
      member = p.member;
      short = p.short;
      small = p.small;
      shows = shows;
      later = more_later k.later s (open_slot s + 1) from m (let e = slot in omega arith) p.later;
      within = within;
    }

same_round : (k : KeptReplica) (s : Sight) (current : KeptOpenSlot) → Mirrors k s → ShowsSlot current s (open_slot s) s.view → Mirrors (with_round k current) s
same_round k s current p shows =
    record { f = p.f; me = p.me; log = p.log; view = p.view; wait = p.wait; views = p.views; few = p.few; member = p.member; short = p.short; small = p.small; shows = shows; later = p.later; within = p.within }

-- a message of another member that the open slot took, or not
pub round_took : (k : KeptReplica) (s : Sight) (current : KeptOpenSlot) (from : ℕ) (m : OrderMessage) (fresh : Bool) → Mirrors k s → from ≢ k.me → slot_of_message m ≡ next_slot k.log → TakesFirst fresh current s (open_slot s) s.view from m → (fresh ≡ not (took (is_like m) s.taken from)) × Mirrors (with_round k current) (if_fresh fresh s from m)
round_took k s current from m true p other slot takes = (takes.0, here k s current from m p (slot ∙ next_is k s p) takes.1 (within_other s from m (rw (← p.me) other) p.within))
round_took k s current from m false p other slot takes = (takes.0, same_round k s current p takes.1)

-- a slot above the open one may take it
pub may_take : (k : KeptReplica) (s : Sight) (later : List KeptOpenSlot) (place from : ℕ) (m : OrderMessage) → Mirrors k s → from ≤ 3 * k.f → from ≢ k.me → led k.f from m ≡ true → slot_of_message m ≡ next_slot k.log + 1 + place → ShowLater later s (open_slot s + 1) → (x : KeptOpenSlot) → slice_get later place ≡ Some x → MayTake x from m
may_take k s later place from m p member other leads slot show x at =
    let of = is_of x s (open_slot s + 1 + place) 0 (slot_at later s (open_slot s + 1) place x show at) in
    let same_f : k.f ≡ x.slot.f = p.f ∙ sym of.f_is in
    let same_me : k.me ≡ x.slot.me = p.me ∙ sym of.me_is in
    let same_log = next_is k s p in
    let is_slot = of.n_is in
    record {
      member = subst (λ f. from ≤ 3 * f) same_f member;
      other = subst (λ j. from ≢ j) same_me other;
      slot = (omega arith);
      leads = subst (λ f. led f from m ≡ true) same_f leads;
    }

-- a message of another member that a slot above the open one took, or not
later_took_by : (k : KeptReplica) (s : Sight) (later : List KeptOpenSlot) (from : ℕ) (m : OrderMessage) (fresh : Bool) → Mirrors k s → from ≢ s.me → (slot_of_message m == open_slot s) ≡ false → ShowLater later (if_fresh fresh s from m) (open_slot s + 1) → Mirrors (with_later k later) (if_fresh fresh s from m)
later_took_by k s later from m true p other apart show =
    record {
      f = p.f;
      me = p.me;
      log = p.log;
      view = p.view;
      wait = p.wait;
      views = p.views;
      few = p.few;
      member = p.member;
      short = p.short;
      small = p.small;
      shows = shows_more k.current s (open_slot s) s.view from m apart p.shows;
      later = show;
      within = within_other s from m other p.within;
    }
later_took_by k s later from m false p other apart show =
    record { f = p.f; me = p.me; log = p.log; view = p.view; wait = p.wait; views = p.views; few = p.few; member = p.member; short = p.short; small = p.small; shows = p.shows; later = show; within = p.within }

pub later_took : (k : KeptReplica) (s : Sight) (later now : List KeptOpenSlot) (place from : ℕ) (m : OrderMessage) (fresh : Bool) (new : KeptOpenSlot) → Mirrors k s → from ≢ k.me → slot_of_message m ≡ next_slot k.log + 1 + place → ShowLater later s (open_slot s + 1) → place < length later → now ≡ slice_set later place new → TakesFirst fresh new s (open_slot s + 1 + place) 0 from m → (fresh ≡ not (took (is_like m) s.taken from)) × Mirrors (with_later k now) (if_fresh fresh s from m)
later_took k s later now place from m fresh new p other slot show within is takes =
    let same_log = next_is k s p in
    let there : slot_of_message m ≡ open_slot s + 1 + place = omega arith in
    let apart : (slot_of_message m == open_slot s) ≡ false = ne_eqb (slot_of_message m) (open_slot s) (λ e. (omega arith)) in
    let shown = takes_at later s (open_slot s + 1) place from m fresh new show within there takes.1 in
    (takes.0, later_took_by k s now from m fresh p (rw (← p.me) other) apart (subst (λ (xs : List KeptOpenSlot). ShowLater xs (if_fresh fresh s from m) (open_slot s + 1)) (sym is) shown))

-- What a member says of its own is no repeat.
said_shows : (fresh : Bool) (current : KeptOpenSlot) (s : Sight) (n v from : ℕ) (m : OrderMessage) → TakesFirst fresh current s n v from m → took (is_like m) s.taken from ≡ false → ShowsSlot current (with_fact s from m) n v
said_shows true current s n v from m takes none = takes.1
said_shows false current s n v from m takes none = absurd (let e : false ≡ not (took (is_like m) s.taken from) = takes.0 in let f : false ≡ true = e ∙ ap not none in cc)

pub says_proposal : (k : KeptReplica) (s : Sight) (current : KeptOpenSlot) (e : Proposed) (fresh : Bool) → Mirrors k s → is_some (own proposal_said s) ≡ false → TakesFirst fresh current s (open_slot s) s.view k.me (message.Propose (open_slot s) k.view e) → Mirrors (with_round k current) (said s (message.Propose (open_slot s) s.view e))
says_proposal k s current e fresh p none made =
    let takes : TakesFirst fresh current s (open_slot s) s.view s.me (message.Propose (open_slot s) s.view e) = subst (λ v. TakesFirst fresh current s (open_slot s) s.view s.me (message.Propose (open_slot s) v e)) p.view (subst (λ j. TakesFirst fresh current s (open_slot s) s.view j (message.Propose (open_slot s) k.view e)) p.me made) in
    let m : OrderMessage = message.Propose (open_slot s) s.view e in
    let first = took_is_found (is_like m) (proposal_said (open_slot s) s.view) (like_proposal (open_slot s) s.view e) s.taken s.me ∙ none in
    here k s current s.me m p refl (said_shows fresh current s (open_slot s) s.view s.me m takes first) (within_own s m refl (let z : ℕ = 0 in omega arith) p.within)

pub says_echo : (k : KeptReplica) (s : Sight) (current : KeptOpenSlot) (d : List ℕ) (fresh : Bool) → Mirrors k s → is_some (own echo_said s) ≡ false → TakesFirst fresh current s (open_slot s) s.view k.me (message.Echo (open_slot s) k.view d) → Mirrors (with_round k current) (said s (message.Echo (open_slot s) s.view d))
says_echo k s current d fresh p none made =
    let takes : TakesFirst fresh current s (open_slot s) s.view s.me (message.Echo (open_slot s) s.view d) = subst (λ v. TakesFirst fresh current s (open_slot s) s.view s.me (message.Echo (open_slot s) v d)) p.view (subst (λ j. TakesFirst fresh current s (open_slot s) s.view j (message.Echo (open_slot s) k.view d)) p.me made) in
    let m : OrderMessage = message.Echo (open_slot s) s.view d in
    let first = took_is_found (is_like m) (echo_said (open_slot s) s.view) (like_echo (open_slot s) s.view d) s.taken s.me ∙ none in
    here k s current s.me m p refl (said_shows fresh current s (open_slot s) s.view s.me m takes first) (within_own s m refl (let z : ℕ = 0 in omega arith) p.within)

pub says_confirm : (k : KeptReplica) (s : Sight) (current : KeptOpenSlot) (d : List ℕ) (fresh : Bool) → Mirrors k s → is_some (own confirm_said s) ≡ false → TakesFirst fresh current s (open_slot s) s.view k.me (message.Confirm (open_slot s) k.view d) → Mirrors (with_round k current) (said s (message.Confirm (open_slot s) s.view d))
says_confirm k s current d fresh p none made =
    let takes : TakesFirst fresh current s (open_slot s) s.view s.me (message.Confirm (open_slot s) s.view d) = subst (λ v. TakesFirst fresh current s (open_slot s) s.view s.me (message.Confirm (open_slot s) v d)) p.view (subst (λ j. TakesFirst fresh current s (open_slot s) s.view j (message.Confirm (open_slot s) k.view d)) p.me made) in
    let m : OrderMessage = message.Confirm (open_slot s) s.view d in
    let first = took_is_found (is_like m) (confirm_said (open_slot s) s.view) (like_confirm (open_slot s) s.view d) s.taken s.me ∙ none in
    here k s current s.me m p refl (said_shows fresh current s (open_slot s) s.view s.me m takes first) (within_own s m refl (let z : ℕ = 0 in omega arith) p.within)

-- no change to a later view was said
none_later : (s : Sight) (w : ℕ) (o : Option Change) → ((j : OrderMessage) → IsIn (s.me, j) s.taken → IsWithinReach s j) → s.view < w → first_of (change_said (open_slot s) w) s.taken s.me ≡ o → is_some o ≡ false
none_later s w None within higher found = refl
none_later s w (Some c) within higher found =
    let r = first_of_is (change_said (open_slot s) w) s.taken s.me c found in
    let it : IsIn (s.me, message.Change (open_slot s) w c) s.taken = rw (change_said_is (open_slot s) w c r.0 r.2) at r.1 in
    absurd (elim (within (message.Change (open_slot s) w c) it) [ inl below ↦ omega arith | inr same ↦ (let le = same.1 in omega arith) ])

within_entered : (s : Sight) (w : ℕ) → s.view < w → ((j : OrderMessage) → IsIn (s.me, j) s.taken → IsWithinReach s j) → (j : OrderMessage) → IsIn (s.me, j) ((s.me, message.Change (open_slot s) w (change_told s)) ∷ s.taken) → IsWithinReach (sight_with_view s w) j
within_entered s w higher old j (inl e) = subst (λ x. IsWithinReach (sight_with_view s w) x) (ap (λ (x : ℕ × OrderMessage). x.1) (sym e)) (inr (refl, (let z : ℕ = 0 in omega arith)))
within_entered s w higher old j (inr h) = elim (old j h) [ inl below ↦ inl below | inr same ↦ inr (same.0, (let le = same.1 in omega arith)) ]

pub enters : (k : KeptReplica) (s : Sight) (told current : KeptOpenSlot) (w : ℕ) (change : Change) (fresh : Bool) → Mirrors k s → s.view < w → w < view_bound → TakesFirst fresh told s (open_slot s) s.view k.me (message.Change (open_slot s) w change) → change ≡ change_told s → ((t : Sight) (n v : ℕ) → ShowsSlot told t n v → ShowsSlot current t n w) → Mirrors (record { f = k.f; me = k.me; log = k.log; view = w; wait = 0; current = current; later = k.later }) (sight_with_view s w)
enters k s told current w change fresh p higher small made is enter =
    let takes : TakesFirst fresh told s (open_slot s) s.view s.me (message.Change (open_slot s) w (change_told s)) = subst (λ c. TakesFirst fresh told s (open_slot s) s.view s.me (message.Change (open_slot s) w c)) is (subst (λ j. TakesFirst fresh told s (open_slot s) s.view j (message.Change (open_slot s) w change)) p.me made) in
    let m : OrderMessage = message.Change (open_slot s) w (change_told s) in
    let n = open_slot s in
    let none = took_is_found (is_like m) (change_said n w) (like_change n w (change_told s)) s.taken s.me ∙ none_later s w (first_of (change_said n w) s.taken s.me) p.within higher refl in
    let before = said_shows fresh told s n s.view s.me m takes none in
    record {
      f = p.f;
      me = p.me;
      log = p.log;
      view = refl;
      wait = refl;
      views = p.views;
      few = p.few;
      member = p.member;
      short = p.short;
      small = small;
      shows = moved current (with_fact s s.me m) n w s.log w 0 (enter (with_fact s s.me m) n s.view before);
      later = moved_later k.later (with_fact s s.me m) (n + 1) s.log w 0 (more_later k.later s (n + 1) s.me m (let z : ℕ = 0 in omega arith) p.later);
      within = within_entered s w higher p.within;
    }

-- The next slot.
pub chooses : (k : KeptReplica) (s : Sight) (e : Proposed) (log : KeptEntries) (current : KeptOpenSlot) (rest : List KeptOpenSlot) → Mirrors k s → KeepsFrom log.first log.entries (s.log ++ e ∷ []) → next_slot k.log < last_slot → ShowsSlot current s (open_slot s + 1) 0 → ShowLater rest s (open_slot s + 1 + 1) → Mirrors (record { f = k.f; me = k.me; log = log; view = 0; wait = 0; current = current; later = rest }) (chose s e)
chooses k s e log current rest p pushed room shows kept =
    let n = open_slot s + 1 in
    let is_open : n ≡ open_slot (chose s e) = simp length-append refl in
    record {
      f = p.f;
      me = p.me;
      log = pushed;
      view = refl;
      wait = refl;
      views = p.views;
      few = p.few;
      member = p.member;
      short = (let a = is_open in let b = next_is k s p in omega arith);
      small = omega arith;
      shows = subst (λ j. ShowsSlot current (chose s e) j 0) is_open (moved current s n 0 (s.log ++ e ∷ []) 0 0 shows);
      later = subst (λ j. ShowLater rest (chose s e) (j + 1)) is_open (moved_later rest s (n + 1) (s.log ++ e ∷ []) 0 0 kept);
      within = λ j h. inl (elim (p.within j h) [ inl below ↦ (let a = is_open in omega arith) | inr same ↦ (let b = same.0 in let a = is_open in omega arith) ]);
    }

-- A tick that counts.
pub waits_more : (k : KeptReplica) (s : Sight) (wait : ℕ) → Mirrors k s → wait ≡ min (s.wait + 1) longest_wait → Mirrors (record { f = k.f; me = k.me; log = k.log; view = k.view; wait = wait; current = k.current; later = k.later }) (waited s)
waits_more k s wait p more =
    record {
      f = p.f;
      me = p.me;
      log = p.log;
      view = p.view;
      wait = more;
      views = p.views;
      few = p.few;
      member = p.member;
      short = p.short;
      small = p.small;
      shows = moved k.current s (open_slot s) s.view s.log s.view (s.wait + 1) p.shows;
      later = moved_later k.later s (open_slot s + 1) s.log s.view (s.wait + 1) p.later;
      within = p.within;
    }

-- A member that has done nothing.
pub begins : (f me : ℕ) (k : KeptReplica) → f ≤ 5 → me ≤ 3 * f → k.f ≡ f → k.me ≡ me → KeepsFrom k.log.first k.log.entries [] → k.view ≡ 0 → k.wait ≡ 0 → k.later ≡ [] → ShowsSlot k.current (at_first f me) 0 0 → Mirrors k (at_first f me)
begins f me k few member same_f same_me log view wait later shows =
    record {
      f = same_f;
      me = same_me;
      log = log;
      view = view;
      wait = wait;
      views = refl;
      few = few;
      member = member;
      short = omega arith;
      small = omega arith;
      shows = shows;
      later = subst (λ (xs : List KeptOpenSlot). ShowLater xs (at_first f me) 1) (sym later) tt;
      within = λ m h. absurd h;
    }

-- The log is cut.
pub cuts : (k : KeptReplica) (s : Sight) (log : KeptEntries) → Mirrors k s → KeepsFrom log.first log.entries s.log → Mirrors (record { f = k.f; me = k.me; log = log; view = k.view; wait = k.wait; current = k.current; later = k.later }) s
cuts k s log p kept =
    record { f = p.f; me = p.me; log = kept; view = p.view; wait = p.wait; views = p.views; few = p.few; member = p.member; short = p.short; small = p.small; shows = p.shows; later = p.later; within = p.within }
