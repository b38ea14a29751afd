-- Slots above the open one.
use Rattle.std.specs.declared.result.Result.{Result}
use Rattle.std.specs.declared.result.Result.TheVariants.{Ok, Err}
use Rattle.std.specs.Prelude.{IfOk}
use Rattle.std.proofs.Common.{◌≡◌, ℕ, zero, suc, ◌+◌, ◌≤◌, ◌<◌, Bool, true, false, List, [], ◌∷◌, ◌++◌, length, length-append, Option, Some, None, slice_get, slice_set, refl, sym, ◌∙◌, subst, ne_eqb, arith}
use Rattle.cs_order.specs.Limits.{view_bound}
use Rattle.cs_order.specs.declared.proposed.Proposed.{Proposed}
use Rattle.cs_order_rules.specs.declared.message.OrderMessage.{OrderMessage}
use Rattle.cs_order_rules.specs.Facts.{Facts, Sight, slot_of_message}
use Rattle.cs_order_open.specs.Shows.{KeptOpenSlot, ShowsSlot, ShowsNext, TakesFirst, with_fact}
use Rattle.cs_order_open.specs.OneSlot.{at_slot}
use Rattle.cs_order_open.specs.laws.OneSlot.{of_facts, shows_all, shows_more}
use Rattle.cs_log.specs.Later.{NoneFrom, ShowLater}
use Rattle.cs_log.specs.Replicas.{if_fresh}

-- a slot shows the same whatever else the member sees
pub moved : (k : KeptOpenSlot) (s : Sight) (n v : ℕ) (log : List Proposed) (view wait : ℕ) → ShowsSlot k s n v → ShowsSlot k (record { f = s.f; me = s.me; taken = s.taken; log = log; view = view; wait = wait; views = s.views }) n v
moved k s n v log view wait p = record { seen = p.seen; same_f = p.same_f; told = p.told; reached = p.reached; echoed = p.echoed; led_only = p.led_only }

pub moved_later : (later : List KeptOpenSlot) (s : Sight) (n : ℕ) (log : List Proposed) (view wait : ℕ) → ShowLater later s n → ShowLater later (record { f = s.f; me = s.me; taken = s.taken; log = log; view = view; wait = wait; views = s.views }) n
moved_later [] s n log view wait show = show
moved_later (k ∷ later) s n log view wait show = (moved k s n 0 log view wait show.0, moved_later later s (n + 1) log view wait show.1)

-- Nothing was taken of some slots.
pub none_more : (n k : ℕ) (facts : Facts) → n ≤ k → NoneFrom n facts → NoneFrom k facts
none_more n k [] upto none = none
none_more n k (fact ∷ facts) upto none = ((let less = none.0 in omega arith), none_more n k facts upto none.1)

none_at : (n : ℕ) (facts : Facts) → NoneFrom n facts → at_slot n facts ≡ []
none_at n [] none = refl
none_at n (fact ∷ facts) none = rw (ne_eqb (slot_of_message fact.1) n (λ e. (let less = none.0 in omega arith))) (none_at n facts none.1)

pub none_behind : (later : List KeptOpenSlot) (s : Sight) (n : ℕ) → ShowLater later s n → NoneFrom (n + length later) s.taken
none_behind [] s n show = none_more n (n + length {A = KeptOpenSlot} []) s.taken (omega arith) show
none_behind (k ∷ later) s n show = none_more (n + 1 + length later) (n + length (k ∷ later)) s.taken (omega arith) (none_behind later s (n + 1) show.1)

-- A new slot shows one of which nothing was taken.
pub new_shows : (k : KeptOpenSlot) (s : Sight) (n : ℕ) → ((t : Sight) → t.f ≡ s.f → t.me ≡ s.me → t.views ≡ view_bound → t.taken ≡ [] → ShowsSlot k t n 0) → s.views ≡ view_bound → NoneFrom n s.taken → ShowsSlot k s n 0
new_shows k s n shows views none =
    let p = shows_all k s n 0 s.taken (shows (of_facts s (at_slot n s.taken)) refl refl views (none_at n s.taken none)) in
    record { seen = p.seen; same_f = p.same_f; told = p.told; reached = p.reached; echoed = p.echoed; led_only = p.led_only }

pub one_more : (later : List KeptOpenSlot) (s : Sight) (n : ℕ) (new : KeptOpenSlot) → ShowLater later s n → ShowsSlot new s (n + length later) 0 → ShowLater (later ++ new ∷ []) s n
one_more [] s n new show made =
    let here : n + length {A = KeptOpenSlot} [] ≡ n = omega arith in
    (subst (λ j. ShowsSlot new s j 0) here made, none_more n (n + 1) s.taken (omega arith) show)
one_more (k ∷ later) s n new show made =
    let there : n + length (k ∷ later) ≡ n + 1 + length later = omega arith in
    (show.0, one_more later s (n + 1) new show.1 (subst (λ j. ShowsSlot new s j 0) there made))

-- A message of an earlier slot changes nothing.
pub more_later : (later : List KeptOpenSlot) (s : Sight) (n from : ℕ) (m : OrderMessage) → slot_of_message m < n → ShowLater later s n → ShowLater later (with_fact s from m) n
more_later [] s n from m less show = (less, show)
more_later (k ∷ later) s n from m less show = (shows_more k s n 0 from m (ne_eqb (slot_of_message m) n (λ e. (omega arith))) show.0, more_later later s (n + 1) from m (omega arith) show.1)

-- The slot at a place.
pub slot_at : (later : List KeptOpenSlot) (s : Sight) (n place : ℕ) (k : KeptOpenSlot) → ShowLater later s n → slice_get later place ≡ Some k → ShowsSlot k s (n + place) 0
slot_at [] s n place k show at = absurd (let none : ◌≡◌ {A = Option KeptOpenSlot} None (Some k) = at in cc)
slot_at (x ∷ later) s n zero k show at =
    let some : Some x ≡ Some k = at in
    let same : x ≡ k = cc in
    let here : n ≡ n + 0 = omega arith in
    subst (λ j. ShowsSlot k s j 0) here (subst (λ y. ShowsSlot y s n 0) same show.0)
slot_at (x ∷ later) s n (suc place) k show at =
    let there : n + 1 + place ≡ n + suc place = omega arith in
    subst (λ j. ShowsSlot k s j 0) there (slot_at later s (n + 1) place k show.1 at)

taken_at : (later : List KeptOpenSlot) (s : Sight) (n place from : ℕ) (m : OrderMessage) (new : KeptOpenSlot) → ShowLater later s n → place < length later → slot_of_message m ≡ n + place → ShowsSlot new (with_fact s from m) (n + place) 0 → ShowLater (slice_set later place new) (with_fact s from m) n
taken_at [] s n place from m new show within slot made = absurd (omega arith)
taken_at (x ∷ later) s n zero from m new show within slot made =
    let here : n + 0 ≡ n = omega arith in
    (subst (λ j. ShowsSlot new (with_fact s from m) j 0) here made, more_later later s (n + 1) from m (omega arith) show.1)
taken_at (x ∷ later) s n (suc place) from m new show within slot made =
    let there : n + suc place ≡ n + 1 + place = omega arith in (
      shows_more x s n 0 from m (ne_eqb (slot_of_message m) n (λ e. (omega arith))) show.0,
      taken_at later s (n + 1) place from m new show.1 (omega arith) (slot ∙ there) (subst (λ j. ShowsSlot new (with_fact s from m) j 0) there made),
    )

kept_at : (later : List KeptOpenSlot) (s : Sight) (n place : ℕ) (new : KeptOpenSlot) → ShowLater later s n → place < length later → ShowsSlot new s (n + place) 0 → ShowLater (slice_set later place new) s n
kept_at [] s n place new show within made = absurd (omega arith)
kept_at (x ∷ later) s n zero new show within made =
    let here : n + 0 ≡ n = omega arith in
    (subst (λ j. ShowsSlot new s j 0) here made, show.1)
kept_at (x ∷ later) s n (suc place) new show within made =
    let there : n + suc place ≡ n + 1 + place = omega arith in
    (show.0, kept_at later s (n + 1) place new show.1 (omega arith) (subst (λ j. ShowsSlot new s j 0) there made))

pub takes_at : (later : List KeptOpenSlot) (s : Sight) (n place from : ℕ) (m : OrderMessage) (fresh : Bool) (new : KeptOpenSlot) → ShowLater later s n → place < length later → slot_of_message m ≡ n + place → ShowsNext fresh new s (n + place) 0 from m → ShowLater (slice_set later place new) (if_fresh fresh s from m) n
takes_at later s n place from m true new show within slot made = taken_at later s n place from m new show within slot made
takes_at later s n place from m false new show within slot made = kept_at later s n place new show within made

-- There is one at each place.
pub some_at : (later : List KeptOpenSlot) (place : ℕ) → place < length later → (x : KeptOpenSlot) × (slice_get later place ≡ Some x)
some_at [] place within = absurd (omega arith)
some_at (x ∷ later) zero within = (x, refl)
some_at (x ∷ later) (suc place) within = some_at later place (omega arith)

-- What a slot at a place took, however it is named.
pub take_result : {E : Type 0} (r : Result Bool E) (k x new : KeptOpenSlot) (later : List KeptOpenSlot) (place from : ℕ) (m : OrderMessage) → k ≡ x → ((s : Sight) (n view : ℕ) → ShowsSlot x s n view → IfOk r (λ fresh. TakesFirst fresh new s n view from m)) → IfOk r (λ fresh. (y : KeptOpenSlot) × (slice_set later place new ≡ slice_set later place y) × ((s : Sight) (n view : ℕ) → ShowsSlot k s n view → TakesFirst fresh y s n view from m))
take_result (Ok fresh) k x new later place from m same call = (new, refl, λ s n view shows. call s n view (subst (λ y. ShowsSlot y s n view) same shows))
take_result (Err e) k x new later place from m same call = tt

pub same_slot : (later : List KeptOpenSlot) (place : ℕ) (k x : KeptOpenSlot) → slice_get later place ≡ Some k → slice_get later place ≡ Some x → k ≡ x
same_slot later place k x one other = (let same : Some k ≡ Some x = sym one ∙ other in cc)

-- Behind no slot nothing was taken.
pub none_yet : (later : List KeptOpenSlot) (s : Sight) (n : ℕ) → length later ≡ 0 → ShowLater later s n → NoneFrom n s.taken × ShowLater later s (n + 1)
none_yet [] s n none show = (show, none_more n (n + 1) s.taken (omega arith) show)
none_yet (k ∷ later) s n none show = absurd (omega arith)

pub one_longer : (later : List KeptOpenSlot) (new : KeptOpenSlot) → length (later ++ new ∷ []) ≡ length later + 1
one_longer later new = simp length-append refl
